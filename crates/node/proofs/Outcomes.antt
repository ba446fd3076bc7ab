-- The outcome of a node read, by what its tests found. Assumes nothing.
use Prim.Native.Nat.{ℕ, ◌+◌, ◌*◌, ◌≤◌, ◌<◌, zero-le}
use mathlib.Core.Path.{◌≡◌, refl, sym, ap, ◌∙◌, subst}
use mathlib.Core.Bool.{true, false, ◌&&◌}
use mathlib.Core.List.{List, []}
use lib.Dec.{leb, eqb}
use lib.ListN.{length}
use borrow.Author.Tests.{leb-true, eqb-true, le-leb, lt-leb, eq-eqb, ne_eqb}
use Rattle.laws.proofs.Tests.{and_both}
use Rattle.le.specs.Bytes.{part, field, byte}
use Rattle.refusal.specs.declared.Refusal.{Refusal}
use Rattle.refusal.specs.declared.Fault.TheVariants.{DataTree, ShortBuffer}
use Rattle.refusal.specs.Order.{◌at◌, ◌needing◌}
use Rattle.refusal.proofs.OrderLaws.{test_goes, test_ends}
use Rattle.keys.specs.Records.{cleared}
use Rattle.keys.specs.Search.{joined}
use Rattle.tree.specs.declared.Listed.{Listed}
use Rattle.tree.specs.declared.Node.{Node}
use Rattle.tree.specs.Answers.{node_of}
use Rattle.laws.specs.Front.{fronted}
use Rattle.block.specs.Block.{checked_block, internal, block_bytes}
use Rattle.edition.specs.declared.Edition.{Edition}
use Rattle.edition.specs.declared.RootBlock.{RootBlock}
use Rattle.node.specs.Steps.{measured_in, gone_read, AllListed, bytes_at}
use Rattle.node.proofs.Kids.{kids_in, sum_of, fault_of, listing_of, all_listed, joined_blocks, joined_length}
use Rattle.node.specs.Content.{Content, bytes, absent, refused, count_in, numbers_from, numbers_in, none_internal, shape_fits, Kids, all, fault, kids_of, total, gathered, tree_content, block_content, checked_content, data_of, found_content, node_content, answer_to, filled_by}
use Rattle.std.specs.Prelude.{Option, Some, None, Result, Ok, Err}
use Rattle.tree.specs.declared.Found.{Found}
use Rattle.tree.specs.declared.Found.TheVariants.{Absent, Entry}

-- what a read answers and leaves in the buffer
abbrev pub Outcome : Content → List ℕ → Result (Option ℕ) Refusal → List ℕ → Type 0
Outcome c out r after = (r ≡ answer_to c (length out)) × (after ≡ filled_by c out)

pub done_outcome : (s out : List ℕ) (n : ℕ) → n ≡ length s → n ≤ length out → Outcome (bytes s) out (Ok (Some n)) (fronted s out)
unfolding answer_to filled_by
done_outcome s out n e h =
    let fits : length s ≤ length out = rw e at h in
    (ap (λ n. Ok (Some n)) e ∙ rw (le-leb (length s) (length out) fits), rw (le-leb (length s) (length out) fits))

pub short_outcome : (s out : List ℕ) (n : ℕ) → n ≡ length s → length out < n → Outcome (bytes s) out (Err (ShortBuffer needing n)) out
unfolding answer_to filled_by
short_outcome s out n e h =
    let short : length out < length s = rw e at h in (
      ap (λ (k : ℕ). Err (ShortBuffer needing k)) e ∙ rw (lt-leb (length s) (length out) short),
      rw (lt-leb (length s) (length out) short),
    )

pub refused_outcome : (r : Refusal) (out : List ℕ) → Outcome (refused r) out (Err r) out
unfolding answer_to filled_by
refused_outcome r out = (refl, refl)

pub absent_outcome : (out : List ℕ) → Outcome absent out (Ok None) out
unfolding answer_to filled_by
absent_outcome out = (refl, refl)

pub none_outcome : (out : List ℕ) → Outcome (bytes []) out (Ok (Some 0)) out
none_outcome out = done_outcome [] out 0 refl zero-le

-- the same of a content that is equal
pub outcome_of : (c d : Content) (out : List ℕ) (r : Result (Option ℕ) Refusal) (after : List ℕ) → d ≡ c → Outcome c out r after → Outcome d out r after
outcome_of c d out r after e o = rw e o

-- the root block's shape, part by part
pub record Shape (d : RootBlock) (g : List ℕ) : Type 0 where
  pub long : 8 ≤ length g
  pub first : (eqb (byte g 0) 1 ≡ true) × (eqb (byte g 1) 1 ≡ true)
  pub some : 1 ≤ count_in g
  pub few : count_in g ≤ d.most
  pub size : length g ≡ 8 + count_in g * d.word
  pub outer : none_internal (numbers_in d g) ≡ true

pub shape_of : (d : RootBlock) (g : List ℕ) → shape_fits d g ≡ true → Shape d g
unfolding shape_fits
shape_of t g e =
    let a = leb 8 (length g) in
    let b = eqb (byte g 0) 1 in
    let c = eqb (byte g 1) 1 in
    let d = leb 1 (count_in g) in
    let f = leb (count_in g) t.most in
    let h = eqb (length g) (8 + count_in g * t.word) in
    let v = and_both (a && b && c && d && f && h) _ e in
    let w = and_both (a && b && c && d && f) h v.0 in
    let x = and_both (a && b && c && d) f w.0 in
    let y = and_both (a && b && c) d x.0 in
    let z = and_both (a && b) c y.0 in
    let o = and_both a b z.0 in
    record {
      long = leb-true _ _ o.0;
      first = (o.1, z.1);
      some = leb-true _ _ y.1;
      few = leb-true _ _ x.1;
      size = eqb-true _ _ w.1;
      outer = v.1;
    }

-- a data tree
module _ (E : Edition) (image : List ℕ) (offset : ℕ) (g : List ℕ) where
  pub tree_shapeless : shape_fits E.tree g ≡ false → tree_content E image offset g ≡ refused (DataTree at offset)
  unfolding tree_content
  tree_shapeless e = test_ends refused _ _ _ e

  module _ (ok : shape_fits E.tree g ≡ true) where
    tree_on_lem : (k : Kids) → kids_of E image (numbers_in E.tree g) ≡ k → tree_content E image offset g ≡ gathered image offset g k
    unfolding tree_content
    tree_on_lem k e = test_goes refused _ _ _ ok ∙ ap (gathered image offset g) e

    pub tree_fault : (r : Refusal) → kids_of E image (numbers_in E.tree g) ≡ fault r → tree_content E image offset g ≡ refused r
    unfolding gathered
    tree_fault r e = tree_on_lem (fault r) e

    pub tree_other_sum : (bs : List Listed) → kids_of E image (numbers_in E.tree g) ≡ all bs → (total bs ≡ field g 4 4 → ⊥) → tree_content E image offset g ≡ refused (DataTree at offset)
    unfolding gathered
    tree_other_sum bs e n = tree_on_lem (all bs) e ∙ test_ends refused _ _ _ (ne_eqb (total bs) (field g 4 4) n)

    pub tree_bytes : (bs : List Listed) → kids_of E image (numbers_in E.tree g) ≡ all bs → total bs ≡ field g 4 4 → tree_content E image offset g ≡ bytes (joined (block_bytes image) bs)
    unfolding gathered
    tree_bytes bs e q = tree_on_lem (all bs) e ∙ test_goes refused _ _ _ (eq-eqb (total bs) (field g 4 4) q)

-- children whose tests have passed, with the sum s of their sizes
pub record Passed (E : Edition) (image g : List ℕ) (count s : ℕ) : Type 0 where
  pub kids : List Listed
  pub are : kids_of E image (numbers_in E.tree g) ≡ all kids
  pub sum : total kids ≡ s
  pub listed : AllListed E image (numbers_from E.tree g 0 count)
  pub joins : joined (bytes_at E image) (numbers_from E.tree g 0 count) ≡ joined (block_bytes image) kids
  pub long : length (joined (block_bytes image) kids) ≡ s

module _ (E : Edition) (image g : List ℕ) (count : ℕ) (m : Result ℕ Refusal) (counted : count ≡ count_in g) (is : m ≡ measured_in (kids_of E image (numbers_from E.tree g 0 count))) where
  numbers_are : numbers_from E.tree g 0 count ≡ numbers_in E.tree g
  unfolding numbers_in
  numbers_are = ap (numbers_from E.tree g 0) counted

  measured_all : m ≡ measured_in (kids_of E image (numbers_in E.tree g))
  measured_all = is ∙ ap (λ (ns : List ℕ). measured_in (kids_of E image ns)) numbers_are

  pub failed : (r : Refusal) → m ≡ Err r → kids_of E image (numbers_in E.tree g) ≡ fault r
  failed r e = fault_of (kids_of E image (numbers_in E.tree g)) r (sym measured_all ∙ e)

  pub passed : (s : ℕ) → m ≡ Ok s → Passed E image g count s
  passed s e =
      let k = sum_of (kids_of E image (numbers_in E.tree g)) s (sym measured_all ∙ e) in
      let l = listing_of E image (numbers_in E.tree g) (kids_in (kids_of E image (numbers_in E.tree g))) k.0 in
      record {
        kids = kids_in (kids_of E image (numbers_in E.tree g));
        are = k.0;
        sum = k.1;
        listed = subst (AllListed E image) (sym numbers_are) (all_listed E image (numbers_in E.tree g) _ l);
        joins = ap (joined (bytes_at E image)) numbers_are ∙ joined_blocks E image (numbers_in E.tree g) _ l;
        long = joined_length E image (numbers_in E.tree g) _ l ∙ k.1;
      }

-- a data block
module _ (E : Edition) (image : List ℕ) (b : Listed) where
  pub block_tree : internal b.block ≡ true → block_content E image b ≡ tree_content E image b.offset (part image b.offset b.size)
  unfolding block_content
  block_tree e = rw e

  pub block_own : internal b.block ≡ false → block_content E image b ≡ bytes (block_bytes image b)
  unfolding block_content
  block_own e = rw e

-- a data block's number
module _ (E : Edition) (image : List ℕ) (number : ℕ) where
  pub data_none : cleared number ≡ 0 → data_of E image number ≡ bytes []
  unfolding data_of
  data_none e = rw (eq-eqb (cleared number) 0 e)

  pub data_refused : (r : Refusal) → (cleared number ≡ 0 → ⊥) → checked_block E image number ≡ Err r → data_of E image number ≡ refused r
  unfolding data_of checked_content
  data_refused r n e = rw (ne_eqb (cleared number) 0 n) (ap (checked_content E image) e)

  pub data_block : (b : Listed) → (cleared number ≡ 0 → ⊥) → checked_block E image number ≡ Ok b → data_of E image number ≡ block_content E image b
  unfolding data_of checked_content
  data_block b n e = rw (ne_eqb (cleared number) 0 n) (ap (checked_content E image) e)

  -- a node
  pub node_found : (n : Node) (pages : ℕ) → node_of E.nodes image number ≡ Ok (Entry n pages) → node_content E image number ≡ data_of E image n.block
  unfolding node_content found_content
  node_found n pages e = ap (found_content E image) e

  pub node_absent : (pages : ℕ) → node_of E.nodes image number ≡ Ok (Absent pages) → node_content E image number ≡ absent
  unfolding node_content found_content
  node_absent pages e = ap (found_content E image) e

  pub node_refused : (r : Refusal) → node_of E.nodes image number ≡ Err r → node_content E image number ≡ refused r
  unfolding node_content found_content
  node_refused r e = ap (found_content E image) e

-- a lookup that is accepted and found no node
pub absence_outcome : (E : Edition) (image : List ℕ) (number : ℕ) (f : Found Node) (out : List ℕ) → Ok f ≡ node_of E.nodes image number → ((n : Node) (pages : ℕ) → f ≡ Entry n pages → ⊥)
    → Outcome (node_content E image number) out (Ok None) out
absence_outcome E image number (Entry n pages) out e k = absurd (k n pages refl)
absence_outcome E image number (Absent pages) out e k = outcome_of absent _ out _ out (node_absent E image number pages (sym e)) (absent_outcome out)

-- a lookup that did not find the node
pub gone_outcome : (E : Edition) (image : List ℕ) (number : ℕ) (f : Result (Found Node) Refusal) (out : List ℕ) → f ≡ node_of E.nodes image number → ((n : Node) (pages : ℕ) → f ≡ Ok (Entry n pages) → ⊥)
    → Outcome (node_content E image number) out (gone_read f) out
unfolding gone_read
gone_outcome E image number (Ok f) out e k = absence_outcome E image number f out e (λ n pages g. k n pages (ap Ok g))
gone_outcome E image number (Err r) out e k = outcome_of (refused r) _ out _ out (node_refused E image number r (sym e)) (refused_outcome r out)
