-- What a search reads, in any tree, accepted or not: its refusal is the first fault of the rules that it tries, and its count the number of branches read. Assumes nothing.
use Prim.Native.Nat.{ℕ, zero, suc, ◌+◌}
use mathlib.Core.Path.{◌≡◌, refl, sym, ap, ◌∙◌}
use mathlib.Core.Logic.{◌↔◌}
use mathlib.Core.List.{List, [], ◌∷◌, ◌++◌, append-nil}
use native.Mathlib.Omega.{arith}
use lib.ListN.{length, length-append}
use Rattle.refusal.specs.declared.Refusal.{Refusal}
use Rattle.refusal.specs.Order.{Verdict, Rule, in_order, after, ◌then◌, FirstFault}
use Rattle.refusal.proofs.OrderLaws.{in_order_append, refused_exactly}
use Rattle.keys.specs.declared.Sought.{Sought}
use Rattle.search.specs.SearchTree.{SearchTree, test, children}
use Rattle.search.specs.Answer.{Answer, found, absent, refused, answer, counted, or_next, in_turn, where_absent, turns_of}
use Rattle.search.specs.Descent.{picked, descend, of_read, reads, rules_read}
use Rattle.search.specs.Promises.{Counts}
use Rattle.std.specs.Prelude.{Ok, Err, Option, Some, None}

-- the refusal of an answer, if it is one
unfoldable pub verdict_of : {E : Type 0} → Answer E → Verdict
verdict_of (found e n) = Ok tt
verdict_of (absent n) = Ok tt
verdict_of (refused r) = Err r

module _ {E : Type 0} where
  verdict_counted : (n : ℕ) (a : Answer E) → verdict_of (counted n a) ≡ verdict_of a
  unfolding verdict_of counted
  verdict_counted n (found e m) = refl
  verdict_counted n (absent m) = refl
  verdict_counted n (refused r) = refl

  verdict_answer_lem : (o : Option E) (n : ℕ) → verdict_of (answer o n) ≡ Ok tt
  unfolding verdict_of answer
  verdict_answer_lem None n = refl
  verdict_answer_lem (Some e) n = refl

  -- what comes after an acceptance
  verdict_after : (v : Verdict) (a : Answer E) → verdict_of (after refused v a) ≡ (v then verdict_of a)
  unfolding verdict_of after
  verdict_after (Ok tt) a = refl
  verdict_after (Err r) a = refl

  verdict_is : (a : Answer E) (r : Refusal) → verdict_of a ≡ Err r → a ≡ refused r
  unfolding verdict_of
  verdict_is (found e n) r h = cc
  verdict_is (absent n) r h = cc
  verdict_is (refused s) r h = cc

  -- one thing and, where it is absent, those behind it
  turn_verdict : (a later : Answer E) (rs : List Rule) → in_order rs ≡ verdict_of later → (verdict_of a then in_order (where_absent a rs)) ≡ verdict_of (or_next a later)
  unfolding verdict_of or_next where_absent after in_order
  turn_verdict (found e n) later rs h = refl
  turn_verdict (absent n) later rs h = h ∙ sym (verdict_counted n later)
  turn_verdict (refused r) later rs h = refl

  turn_counts : {X : Type 0} (xs ys : List X) (a later : Answer E) → Counts (length xs) a → Counts (length ys) later → Counts (length (xs ++ where_absent a ys)) (or_next a later)
  unfolding Counts or_next where_absent counted
  turn_counts xs ys (found e n) later h g = let q : n ≡ length (xs ++ []) = h ∙ ap length (sym (append-nil xs)) in q
  turn_counts xs ys (absent n) (found e m) h g = let q : n + m ≡ length (xs ++ ys) = omega (arith, h, g, length-append xs ys) in q
  turn_counts xs ys (absent n) (absent m) h g = let q : n + m ≡ length (xs ++ ys) = omega (arith, h, g, length-append xs ys) in q
  turn_counts xs ys (absent n) (refused r) h g = tt
  turn_counts xs ys (refused r) later h g = tt

  one_counts : (n : ℕ) (a : Answer E) → Counts n a → Counts (suc n) (counted 1 a)
  unfolding Counts counted
  one_counts n (found e m) h = let q : 1 + m ≡ suc n = omega (arith, h) in q
  one_counts n (absent m) h = let q : 1 + m ≡ suc n = omega (arith, h) in q
  one_counts n (refused r) h = tt

  pub checked_counts : (n : ℕ) (v : Verdict) (a : Answer E) → Counts n a → Counts n (after refused v a)
  unfolding after Counts
  checked_counts n (Ok tt) a h = h
  checked_counts n (Err r) a h = tt

  pub leaf_counts : (o : Option E) → Counts 1 (answer o 1)
  unfolding answer Counts
  leaf_counts None = refl
  leaf_counts (Some e) = refl

module _ {B E : Type 0} (F : SearchTree B E) (s : Sought) (k : ℕ) where
  abbrev go : ℕ → B → Answer E
  go l c = descend F s k l c

  -- the rules tried tell the refusal
  turns_verdict : (l : ℕ) (cs : List B) → ((c : B) → in_order (rules_read F s k l c) ≡ verdict_of (go l c))
      → in_order (turns_of (λ c. go l c) (λ c. rules_read F s k l c) cs) ≡ verdict_of (in_turn (λ c. go l c) cs)
  unfolding turns_of in_turn in_order verdict_of
  turns_verdict l [] f = refl
  turns_verdict l (c ∷ cs) f =
      in_order_append (rules_read F s k l c) _
      ∙ ap (λ v. v then in_order (where_absent (go l c) (turns_of (λ c. go l c) (λ c. rules_read F s k l c) cs))) (f c)
      ∙ turn_verdict (go l c) _ _ (turns_verdict l cs f)

  after_verdict : (v : Verdict) (rs : List Rule) (n : ℕ) (a : Answer E) → in_order rs ≡ verdict_of a
      → (v then in_order (after (λ r. []) v rs)) ≡ verdict_of (after refused v (counted n a))
  unfolding after verdict_of
  after_verdict (Ok tt) rs n a h = h ∙ sym (verdict_counted n a)
  after_verdict (Err r) rs n a h = refl

  pub tried : (l : ℕ) (b : B) → in_order (rules_read F s k l b) ≡ verdict_of (go l b)
  unfolding of_read descend test after
  tried zero b =
      sym (verdict_after (in_order (F.rules zero b)) _ ∙ ap (λ v. in_order (F.rules zero b) then v) (verdict_answer_lem _ 1) ∙ then_accepted (in_order (F.rules zero b)))
    where
      then_accepted : (v : Verdict) → (v then Ok tt) ≡ v
      then_accepted (Ok tt) = refl
      then_accepted (Err r) = refl
  tried (suc l) b =
      in_order_append (F.rules (suc l) b) _
      ∙ after_verdict (in_order (F.rules (suc l) b)) _ _ (in_turn (λ c. go l c) (picked F s k (children F l b))) (turns_verdict l (picked F s k (children F l b)) (tried l))

  pub checked_tried : (rs : List Rule) (l : ℕ) (b : B) → in_order (rs ++ rules_read F s k l b) ≡ verdict_of (after refused (in_order rs) (go l b))
  checked_tried rs l b = in_order_append rs (rules_read F s k l b) ∙ ap (λ v. in_order rs then v) (tried l b) ∙ sym (verdict_after (in_order rs) (go l b))

  -- a search that comes after other rules is refused exactly with the first fault of those and of the rules that it tries
  pub checked_first_fault : (rs : List Rule) (l : ℕ) (b : B) (r : Refusal)
      → (after refused (in_order rs) (go l b) ≡ refused r) ↔ FirstFault (rs ++ rules_read F s k l b) r
  unfolding verdict_of
  checked_first_fault rs l b r = (
    (λ h. (refused_exactly (rs ++ rules_read F s k l b) r).0 (checked_tried rs l b ∙ ap verdict_of h)),
    (λ f. verdict_is _ r (sym (checked_tried rs l b) ∙ (refused_exactly (rs ++ rules_read F s k l b) r).1 f)),
  )

  -- the count is the number of branches read, unless it is refused
  turns_count : (l : ℕ) (cs : List B) → ((c : B) → Counts (length (reads F s k l c)) (go l c))
      → Counts (length (turns_of (λ c. go l c) (λ c. reads F s k l c) cs)) (in_turn (λ c. go l c) cs)
  unfolding turns_of in_turn Counts
  turns_count l [] f = refl
  turns_count l (c ∷ cs) f = turn_counts (reads F s k l c) _ (go l c) _ (f c) (turns_count l cs f)

  after_counts : (b : B) (v : Verdict) (xs : List B) (a : Answer E) → Counts (length xs) a
      → Counts (length ((b ∷ []) ++ after (λ r. []) v xs)) (after refused v (counted 1 a))
  unfolding after Counts
  after_counts b (Ok tt) xs a h = one_counts (length xs) a h
  after_counts b (Err r) xs a h = tt

  pub reads_counted : (l : ℕ) (b : B) → Counts (length (reads F s k l b)) (go l b)
  unfolding of_read descend
  reads_counted zero b = checked_counts 1 (test F zero b) _ (leaf_counts _)
  reads_counted (suc l) b = after_counts b (test F (suc l) b) _ _ (turns_count l (picked F s k (children F l b)) (reads_counted l))
