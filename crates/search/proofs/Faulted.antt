-- In any tree, accepted or not: the first fault of a check or of a search is that of a branch which is reached. Assumes nothing.
use Prim.Native.Nat.{ℕ, zero, suc}
use mathlib.Core.Path.{refl}
use mathlib.Core.Logic.{⊎_elim}
use mathlib.Core.List.{List, [], ◌∷◌, map, Memᴰ}
use lib.ListN.{take, drop}
use Rattle.refusal.specs.declared.Refusal.{Refusal}
use Rattle.refusal.specs.Order.{Verdict, Rule, after, FirstFault}
use Rattle.refusal.proofs.OrderLaws.{append_fault}
use Rattle.keys.specs.declared.Sought.{Sought}
use Rattle.keys.specs.declared.Sought.TheVariants.{Equal, AtLeast}
use Rattle.keys.specs.Search.{joined, last_at_most, start}
use Rattle.search.specs.SearchTree.{SearchTree, test, children, rules_under, Reached, at_root, below}
use Rattle.search.specs.Answer.{Answer, found, absent, refused, where_absent, turns_of}
use Rattle.search.specs.Descent.{from_seat, low_in, picked, descend, of_read, rules_read}
use Rattle.std.specs.Prelude.{Option, Some, None, Ok, Err}

-- things that are picked stand among those picked from
member_drop : {A : Type 0} (n : ℕ) (x : A) (xs : List A) → Memᴰ x (drop n xs) → Memᴰ x xs
member_drop zero x xs m = m
member_drop (suc n) x [] m = m
member_drop (suc n) x (y ∷ ys) m = Memᴰ.tail (member_drop n x ys m)

member_take : {A : Type 0} (n : ℕ) (x : A) (xs : List A) → Memᴰ x (take n xs) → Memᴰ x xs
member_take (suc n) x (y ∷ ys) (Memᴰ.head e) = Memᴰ.head e
member_take (suc n) x (y ∷ ys) (Memᴰ.tail m) = Memᴰ.tail (member_take n x ys m)
member_take zero x xs h = elim h [ ]
member_take (suc n) x [] h = elim h [ ]

member_picked : {B : Type 0} (s : Sought) (seat : Option ℕ) (c : B) (cs : List B) → Memᴰ c (from_seat s seat cs) → Memᴰ c cs
unfolding from_seat
member_picked Equal (Some i) c cs m = member_drop i c cs (member_take 1 c (drop i cs) m)
member_picked Equal None c cs m = elim m [ ]
member_picked AtLeast seat c cs m = member_drop (start seat) c cs m

-- the first fault of lists in a row is that of one of them
pub joined_fault : {B : Type 0} (list : B → List Rule) (cs : List B) (r : Refusal) (X : Type 0) → ((c : B) → Memᴰ c cs → FirstFault (list c) r → X) → FirstFault (joined list cs) r → X
unfolding joined
joined_fault list (c ∷ cs) r X f g =
    ⊎_elim (λ (h : FirstFault (list c) r). f c (Memᴰ.head refl) h) (λ (h : FirstFault (joined list cs) r). joined_fault list cs r X (λ d m. f d (Memᴰ.tail m)) h)
    (append_fault (list c) (joined list cs) r g)
joined_fault list [] r X f g = elim g [ ]

module _ {B E : Type 0} (F : SearchTree B E) (top : ℕ) (root : B) where
  -- a branch that is reached, and the first fault of its rules
  pub record FaultOf (r : Refusal) : Type 0 where
    pub level : ℕ
    pub branch : B
    pub reached : Reached F top root level branch
    pub first : FirstFault (F.rules level branch) r

  of_branch : (l : ℕ) (b : B) (r : Refusal) → Reached F top root l b → FirstFault (F.rules l b) r → FaultOf r
  of_branch l b r way f = record { level = l; branch = b; reached = way; first = f }

  under_fault : (l : ℕ) (b : B) (r : Refusal) → Reached F top root l b → FirstFault (rules_under F l b) r → FaultOf r
  unfolding rules_under
  under_fault zero b r way f = of_branch zero b r way f
  under_fault (suc l) b r way f =
      ⊎_elim
      (λ (own : FirstFault (F.rules (suc l) b) r). of_branch (suc l) b r way own)
      (λ (kid : FirstFault (joined (λ c. rules_under F l c) (children F l b)) r).
      joined_fault (λ c. rules_under F l c) (children F l b) r (FaultOf r) (λ c m g. under_fault l c r (below way m) g) kid)
      (append_fault (F.rules (suc l) b) _ r f)

  pub check_fault : (r : Refusal) → FirstFault (rules_under F top root) r → FaultOf r
  check_fault r f = under_fault top root r at_root f

  module _ (s : Sought) (k : ℕ) where
    where_fault : (a : Answer E) (rs : List Rule) (r : Refusal) → FirstFault (where_absent a rs) r → FirstFault rs r
    unfolding where_absent
    where_fault (absent n) rs r f = f
    where_fault (found _ _) rs r f = elim f [ ]
    where_fault (refused _) rs r f = elim f [ ]

    after_fault : (v : Verdict) (rs : List Rule) (r : Refusal) → FirstFault (after (λ s. []) v rs) r → FirstFault rs r
    unfolding after
    after_fault (Ok tt) rs r f = f
    after_fault (Err _) rs r f = elim f [ ]

    turns_fault : (go : B → Answer E) (list : B → List Rule) (cs : List B) (r : Refusal) (X : Type 0) → ((c : B) → Memᴰ c cs → FirstFault (list c) r → X)
        → FirstFault (turns_of go list cs) r → X
    unfolding turns_of
    turns_fault go list (c ∷ cs) r X f g =
        ⊎_elim
        (λ (h : FirstFault (list c) r). f c (Memᴰ.head refl) h)
        (λ (h : FirstFault (where_absent (go c) (turns_of go list cs)) r). turns_fault go list cs r X (λ d m. f d (Memᴰ.tail m)) (where_fault (go c) (turns_of go list cs) r h))
        (append_fault (list c) _ r g)
    turns_fault go list [] r X f g = elim g [ ]

    read_fault : (l : ℕ) (b : B) (r : Refusal) → Reached F top root l b → FirstFault (rules_read F s k l b) r → FaultOf r
    unfolding of_read
    read_fault zero b r way f = of_branch zero b r way f
    read_fault (suc l) b r way f =
        ⊎_elim
        (λ (own : FirstFault (F.rules (suc l) b) r). of_branch (suc l) b r way own)
        (λ (kid : FirstFault (after (λ s. []) (test F (suc l) b) (turns_of (λ c. descend F s k l c) (λ c. rules_read F s k l c) (picked F s k (children F l b)))) r).
        turns_fault (λ c. descend F s k l c) (λ c. rules_read F s k l c) (picked F s k (children F l b)) r (FaultOf r)
        (λ c m g. read_fault l c r (below way (member_picked s (last_at_most k (map (low_in F s k) (children F l b))) c (children F l b) m)) g)
        (after_fault (test F (suc l) b) _ r kid))
        (append_fault (F.rules (suc l) b) _ r f)

    pub search_fault : (r : Refusal) → FirstFault (rules_read F s k top root) r → FaultOf r
    search_fault r f = read_fault top root r at_root f
