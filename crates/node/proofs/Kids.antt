-- The children of a data tree, tested one at a time. Assumes nothing.
use Prim.Native.Nat.{ℕ, ◌+◌}
use mathlib.Core.Path.{◌≡◌, refl, sym, ap, ap₂, ◌∙◌, subst}
use mathlib.Core.List.{List, [], ◌∷◌, ◌++◌}
use native.Mathlib.Nat.{zero-add, add-zero, add_assoc}
use native.Mathlib.Omega.{arith}
use lib.ListN.{length, length-append}
use Rattle.refusal.specs.declared.Refusal.{Refusal}
use Rattle.keys.specs.Search.{joined}
use Rattle.keys.proofs.SearchLaws.{joined_nil, joined_more}
use Rattle.tree.specs.declared.Listed.{Listed}
use Rattle.block.specs.Block.{checked_block, block_bytes}
use Rattle.block.proofs.BlockLaws.{checked_inside, bytes_length}
use Rattle.edition.specs.declared.Edition.{Edition}
use Rattle.node.specs.Content.{Kids, all, fault, and_kids, kids_of, total}
use Rattle.refusal.proofs.OrderLaws.{unrefused}
use Rattle.node.specs.Steps.{measured_in, AllListed, bytes_in, bytes_at}
use Rattle.node.specs.Named.{ListedAs, none, one}
use Rattle.std.specs.Prelude.{Result, Ok, Err}

-- a sum to which so much is added; a refusal stays
pub add_to : ℕ → Result ℕ Refusal → Result ℕ Refusal
add_to n (Ok m) = Ok (n + m)
add_to n (Err r) = Err r

pub add_none : (m : Result ℕ Refusal) → add_to 0 m ≡ m
unfolding add_to
add_none (Ok m) = ap Ok (zero-add m)
add_none (Err r) = refl

add_add : (a b : ℕ) (m : Result ℕ Refusal) → add_to (a + b) m ≡ add_to a (add_to b m)
unfolding add_to
add_add a b (Ok m) = ap Ok (add_assoc a b m)
add_add a b (Err r) = refl

sum_kids : (b : Listed) (k : Kids) → measured_in (and_kids (Ok b) k) ≡ add_to b.size (measured_in k)
unfolding measured_in and_kids add_to total
sum_kids b (all bs) = refl
sum_kids b (fault r) = refl

module _ (E : Edition) (image : List ℕ) (n : ℕ) (ns : List ℕ) (sum : ℕ) where
  pub measure_on : (b : Listed) → checked_block E image n ≡ Ok b
      → add_to sum (measured_in (kids_of E image (n ∷ ns))) ≡ add_to (sum + b.size) (measured_in (kids_of E image ns))
  unfolding kids_of
  measure_on b e =
      ap (λ (c : Result Listed Refusal). add_to sum (measured_in (and_kids c (kids_of E image ns)))) e
      ∙ ap (add_to sum) (sum_kids b (kids_of E image ns)) ∙ sym (add_add sum b.size (measured_in (kids_of E image ns)))

  pub measure_ends : (r : Refusal) → checked_block E image n ≡ Err r → Err r ≡ add_to sum (measured_in (kids_of E image (n ∷ ns)))
  unfolding kids_of and_kids measured_in add_to
  measure_ends r e = sym (ap (λ (x : Result Listed Refusal). add_to sum (measured_in (and_kids x (kids_of E image ns)))) e)

pub measure_done : (E : Edition) (image ns : List ℕ) (sum : ℕ) → ns ≡ [] → Ok sum ≡ add_to sum (measured_in (kids_of E image ns))
unfolding kids_of measured_in add_to total
measure_done E image ns sum e = sym (ap (λ (xs : List ℕ). add_to sum (measured_in (kids_of E image xs))) e ∙ ap Ok (add-zero sum))

-- where the children come to a list, each number is listed as the block beside it
and_kids_lem : (c : Result Listed Refusal) (k : Kids) (P : Kids → Type 0) → ((r : Refusal) → P (fault r))
    → ((b : Listed) (bs : List Listed) → c ≡ Ok b → k ≡ all bs → P (all (b ∷ bs))) → P (and_kids c k)
unfolding and_kids
and_kids_lem (Ok b) (all bs) P f g = g b bs refl refl
and_kids_lem (Ok b) (fault r) P f g = f r
and_kids_lem (Err r) k P f g = f r

-- what a list of children that are all there says
pub Says : Edition → List ℕ → List ℕ → Kids → Type 0
Says E image ns (all bs) = ListedAs E image ns bs
Says E image ns (fault r) = Unit {0}

says : (E : Edition) (image ns : List ℕ) (k : Kids) → kids_of E image ns ≡ k → Says E image ns k
unfolding kids_of Says
says E image [] k e = subst (Says E image []) e none
says E image (n ∷ ns) k e =
    subst (Says E image (n ∷ ns)) e
    (and_kids_lem (checked_block E image n) (kids_of E image ns) (Says E image (n ∷ ns)) (λ r. tt) (λ b bs q w. one q (says E image ns (all bs) w)))

pub listing_of : (E : Edition) (image ns : List ℕ) (bs : List Listed) → kids_of E image ns ≡ all bs → ListedAs E image ns bs
unfolding Says
listing_of E image ns bs e = says E image ns (all bs) e

pub of_listing : (E : Edition) (image ns : List ℕ) (bs : List Listed) → ListedAs E image ns bs → kids_of E image ns ≡ all bs
unfolding kids_of and_kids
of_listing E image [] [] none = refl
of_listing E image (n ∷ ns) (b ∷ bs) (one q l) = ap₂ and_kids q (of_listing E image ns bs l)
of_listing E image [] (b ∷ bs) h = elim h [ ]
of_listing E image (n ∷ ns) [] h = elim h [ ]

pub all_listed : (E : Edition) (image ns : List ℕ) (bs : List Listed) → ListedAs E image ns bs → AllListed E image ns
all_listed E image [] [] none = tt
all_listed E image (n ∷ ns) (b ∷ bs) (one q l) = (record { block = b; is = q }, all_listed E image ns bs l)
all_listed E image [] (b ∷ bs) h = elim h [ ]
all_listed E image (n ∷ ns) [] h = elim h [ ]

-- the bytes under the numbers are those of the blocks, and as many as the sum of sizes
pub bytes_here : (E : Edition) (image : List ℕ) (n : ℕ) (b : Listed) → checked_block E image n ≡ Ok b → bytes_at E image n ≡ block_bytes image b
unfolding bytes_at bytes_in
bytes_here E image n b e = ap (bytes_in image) e

pub joined_blocks : (E : Edition) (image ns : List ℕ) (bs : List Listed) → ListedAs E image ns bs → joined (bytes_at E image) ns ≡ joined (block_bytes image) bs
joined_blocks E image [] [] none = joined_nil (bytes_at E image) ∙ sym (joined_nil (block_bytes image))
joined_blocks E image (n ∷ ns) (b ∷ bs) (one q l) =
    joined_more (bytes_at E image) n ns ∙ ap₂ ◌++◌ (bytes_here E image n b q) (joined_blocks E image ns bs l) ∙ sym (joined_more (block_bytes image) b bs)
joined_blocks E image [] (b ∷ bs) h = elim h [ ]
joined_blocks E image (n ∷ ns) [] h = elim h [ ]

pub joined_length : (E : Edition) (image ns : List ℕ) (bs : List Listed) → ListedAs E image ns bs → length (joined (block_bytes image) bs) ≡ total bs
unfolding total
joined_length E image [] [] none = ap length (joined_nil (block_bytes image))
joined_length E image (n ∷ ns) (b ∷ bs) (one q l) =
    ap length (joined_more (block_bytes image) b bs)
    ∙ length-append (block_bytes image b) (joined (block_bytes image) bs)
    ∙ ap₂ ◌+◌ (bytes_length image b (checked_inside E image n b q)) (joined_length E image ns bs l)
joined_length E image [] (b ∷ bs) h = elim h [ ]
joined_length E image (n ∷ ns) [] h = elim h [ ]

-- the blocks of children that are all there
pub kids_in : Kids → List Listed
kids_in (all bs) = bs
kids_in (fault r) = []

pub sum_of : (k : Kids) (s : ℕ) → measured_in k ≡ Ok s → (k ≡ all (kids_in k)) × (total (kids_in k) ≡ s)
unfolding measured_in kids_in
sum_of (all bs) s e = (refl, unsum e)
  where
    unsum : ◌≡◌ {A = Result ℕ Refusal} (Ok (total bs)) (Ok s) → total bs ≡ s
    unsum p = cc
sum_of (fault r) s e = let clash : ◌≡◌ {A = ℕ} 0 1 = cc in absurd (omega arith)

pub fault_of : (k : Kids) (r : Refusal) → measured_in k ≡ Err r → k ≡ fault r
unfolding measured_in
fault_of (all bs) r e = cc
fault_of (fault q) r e = ap fault (unrefused e)
