-- What a call tells of an answer, made and read. Assumes nothing.
use Prim.Native.Nat.{ℕ, ◌+◌, ◌≤◌}
use mathlib.Core.Path.{◌≡◌, refl, sym, ap, ◌∙◌, subst}
use mathlib.Core.List.{List}
use lib.ListN.{length}
use Rattle.le.specs.Bytes.{part}
use Rattle.refusal.specs.declared.Refusal.{Refusal}
use Rattle.search.specs.Answer.{Answer, absent, refused, answer, counted}
use Rattle.search.specs.Promises.{Says}
use Rattle.heaptree.specs.declared.HeapTree.{HeapTree}
use Rattle.heaptree.specs.Lookup.{Shows, by_case}
use Rattle.std.specs.Prelude.{Some, None, Result, Ok, Err, Option}

counted_answer : (x : Option (List ℕ)) (n m : ℕ) → counted n (answer x m) ≡ answer x (n + m)
unfolding counted answer
counted_answer None n m = refl
counted_answer (Some e) n m = refl

pub none_is : (n : ℕ) → absent n ≡ answer {E = List ℕ} None n
unfolding answer
none_is n = refl

-- what a caller makes of an answer that says no entry, or one
module _ {A : Type 0} (of : List ℕ → A) (missing : A) (refusing : Refusal → A) where
  pub case_none : (n : ℕ) → by_case of missing refusing (answer None n) ≡ missing
  unfolding by_case answer
  case_none n = refl

  pub case_some : (e : List ℕ) (n : ℕ) → by_case of missing refusing (answer (Some e) n) ≡ of e
  unfolding by_case answer
  case_some e n = refl

module _ (tree : HeapTree) (block : List ℕ) where
  abbrev size : ℕ
  size = tree.key + tree.entry

  pub stands : (place n : ℕ) (o : Option (List ℕ)) → place + size ≤ length block → o ≡ Some (part block place size) → Shows tree block (Ok (Some place)) (answer o n)
  unfolding Shows
  stands place n o h e = (h, record { count = n; is = ap (λ x. answer x n) e })

  pub nowhere : (n : ℕ) (o : Option (List ℕ)) → o ≡ None → Shows tree block (Ok None) (answer o n)
  unfolding Shows
  nowhere n o e = record { count = n; is = ap (λ x. answer x n) e }

  pub nothing : (n : ℕ) → Shows tree block (Ok None) (absent n)
  unfolding Shows
  nothing n = record { count = n; is = none_is n }

  pub wrong : (r : Refusal) → Shows tree block (Err r) (refused r)
  unfolding Shows
  wrong r = refl

  -- the count plays no part
  more : (n : ℕ) (a : Answer (List ℕ)) (o : Option (List ℕ)) → Says a o → Says (counted n a) o
  more n a o s = record { count = n + s.count; is = ap (counted n) s.is ∙ counted_answer o n s.count }

  pub shows_counted : (n : ℕ) (r : Result (Option ℕ) Refusal) (a : Answer (List ℕ)) → Shows tree block r a → Shows tree block r (counted n a)
  unfolding Shows counted
  shows_counted n (Ok (Some place)) a s = (s.0, more n a _ s.1)
  shows_counted n (Ok None) a s = more n a _ s
  shows_counted n (Err r) a s = ap (counted n) s

  -- r is what code was answered
  module _ (r : Result (Option ℕ) Refusal) (a : Answer (List ℕ)) (s : Shows tree block r a) where
    shown_at : (place : ℕ) → r ≡ Ok (Some place) → (place + size ≤ length block) × Says a (Some (part block place size))
    unfolding Shows
    shown_at place e = subst (λ x. Shows tree block x a) e s

    shown_none : r ≡ Ok None → Says a None
    unfolding Shows
    shown_none e = subst (λ x. Shows tree block x a) e s

    shown_wrong : (f : Refusal) → r ≡ Err f → a ≡ refused f
    unfolding Shows
    shown_wrong f e = subst (λ x. Shows tree block x a) e s

    -- the record lies in the block
    pub lies_at : (place : ℕ) → r ≡ Ok (Some place) → place + size ≤ length block
    lies_at place e = (shown_at place e).0

    -- what a caller makes of it
    module _ {A : Type 0} (of : List ℕ → A) (missing : A) (refusing : Refusal → A) where
      pub read_at : (place : ℕ) → r ≡ Ok (Some place) → of (part block place size) ≡ by_case of missing refusing a
      read_at place e = sym (ap (by_case of missing refusing) (shown_at place e).1.is ∙ case_some of missing refusing _ _)

      pub read_none : r ≡ Ok None → missing ≡ by_case of missing refusing a
      read_none e = sym (ap (by_case of missing refusing) (shown_none e).is ∙ case_none of missing refusing _)

      pub read_wrong : (f : Refusal) → r ≡ Err f → refusing f ≡ by_case of missing refusing a
      unfolding by_case
      read_wrong f e = sym (ap (by_case of missing refusing) (shown_wrong f e))

-- an answer read as the entry that it says, or none
module _ {A : Type 0} (of : List ℕ → A) (missing : A) (refusing : Refusal → A) where
  any_count : (o : Option (List ℕ)) (m n : ℕ) → by_case of missing refusing (answer o m) ≡ by_case of missing refusing (answer o n)
  any_count None m n = case_none of missing refusing m ∙ sym (case_none of missing refusing n)
  any_count (Some e) m n = case_some of missing refusing e m ∙ sym (case_some of missing refusing e n)

  pub read_says : (a : Answer (List ℕ)) (o : Option (List ℕ)) → Says a o → by_case of missing refusing a ≡ by_case of missing refusing (answer o 0)
  read_says a o s = ap (by_case of missing refusing) s.is ∙ any_count o s.count 0
