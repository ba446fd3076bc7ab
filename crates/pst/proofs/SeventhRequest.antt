-- The two editions. Assumes nothing.
use Prim.Native.Nat.{ℕ, ◌%◌, ◌^◌, ◌≤◌, ◌<◌}
use mathlib.Core.Path.{◌≡◌, refl, sym, ap, ap₂, subst, ◌∙◌}
use mathlib.Core.Bool.{Bool, true, false}
use mathlib.Core.Logic.{◌↔◌, ◌≢◌, inl, inr, ⊎_elim}
use mathlib.Core.List.{List, [], ◌∷◌, map}
use native.Mathlib.Nat.{mod-eq_of_lt}
use native.Mathlib.Omega.{arith}
use lib.Dec.{eqb}
use lib.ListN.{length}
use borrow.Author.Tests.{eqb-true, eq-eqb, ne_eqb}
use Rattle.laws.proofs.Tests.{either, or_left, or_right, not_both}
use Rattle.le.specs.Bytes.{Bytes}
use Rattle.refusal.specs.declared.Fault.TheVariants.{Version}
use Rattle.refusal.specs.declared.Refusal.{Refusal}
use Rattle.refusal.specs.Order.{◌at◌, Rule, in_order, after, FirstFault, here, later}
use Rattle.edition.specs.declared.Edition.{Edition}
use Rattle.edition.specs.declared.Layout.{Layout}
use Rattle.edition.specs.Editions.{trailer64, root64, edition64, bbt32, trailer32, root32, edition32}
use Rattle.edition.specs.Fair.{FairEdition}
use Rattle.edition.proofs.Fairs.{fair_edition64, fair_edition32}
use Rattle.header.specs.declared.Header.{Header}
use Rattle.header.specs.Header.{length_fits, magic_fits, client_fits, version_of, older, version_fits, edition_of, blocks_of, mark_rules, seal_rules, last_rules, header_rules, header_fits, header_of}
use Rattle.header.proofs.EditionLaws.{fair_places, older_is, newer_is, edition_one_of}
use Rattle.header.proofs.FormerLaws.{rules_as_before, says_as_before, end_as_before}
use Rattle.page.specs.Layout.{as_given, compared}
use Rattle.page.specs.Page.{key_in}
use Rattle.tree.specs.Tree.{tree_fits, scan}
use Rattle.tree.specs.Answers.{node_of, block_of, next_node_of, next_block_of}
use Rattle.tree.specs.Lookup.{path}
use Rattle.tree.proofs.Exactly.{tree_exactly}
use Rattle.tree.proofs.Demand3.{demand3}
use Rattle.tree.proofs.Listing.{listing}
use Rattle.tree.proofs.Large.{large_missing}
use Rattle.keys.specs.Plain.{Missing}
use Rattle.keys.specs.Records.{significant, cleared}
use Rattle.nodelist.specs.Places.{area_of}
use Rattle.block.specs.Block.{room32, room_for, test_of, read_of, filled_of}
use Rattle.block.proofs.Exactly.{checked_exactly}
use Rattle.node.specs.Content.{node_content, most_data, answer_to, filled_by}
use Rattle.node.proofs.Exactly.{node_exactly}
use Rattle.node.proofs.Most.{node_most}
use Rattle.pst.specs.Meaning.{answered, absent, refused, refusal_means, verdict_means, header_means, node_means, block_means, sized_means, data_means}
use Rattle.pst.specs.Outcomes.{header_outcome, nodes_outcome, blocks_outcome, node_outcome, block_outcome, next_node_outcome, next_block_outcome, list_area, test_outcome, read_outcome, read_buffer, data_outcome, data_buffer, room32_outcome}
use Rattle.pst.specs.Demands.{InEdition, AsBefore, OlderVersion, SeventhRequest}
use Rattle.pst.proofs.FirstDemand.{first_demand}
use Rattle.pst.proofs.ThirdDemand.{third_demand}
use Rattle.std.specs.Prelude.{Ok, Err}

-- the version tells the edition
older_of : (image : List ℕ) → OlderVersion image → older image ≡ true
unfolding older
older_of image (inl e) = or_left _ _ (eq-eqb _ _ e)
older_of image (inr e) = or_right (eqb (version_of image) 14) _ (eq-eqb _ _ e)

of_older : (image : List ℕ) → older image ≡ true → OlderVersion image
unfolding older
of_older image e = ⊎_elim (λ (v : eqb (version_of image) 14 ≡ true). inl (eqb-true _ _ v)) (λ (v : eqb (version_of image) 15 ≡ true). inr (eqb-true _ _ v)) (either _ _ e)

not_older : (image : List ℕ) → (OlderVersion image → ⊥) → older image ≡ false
not_older image n = by (older image) refl
  where
    by : (b : Bool) → older image ≡ b → older image ≡ false
    by true e = absurd (n (of_older image e))
    by false e = e

edition_by : (image : List ℕ) → (edition_of image ≡ edition32) ↔ OlderVersion image
unfolding edition64 edition32
edition_by image = (by (older image) refl, (λ v. older_is image (older_of image v)))
  where
    by : (b : Bool) → older image ≡ b → edition_of image ≡ edition32 → OlderVersion image
    by true e q = of_older image e
    by false e q =
        let clash : ◌≡◌ {A = ℕ} 64 32 = ap (λ (E : Edition). E.bits) (sym (newer_is image e) ∙ q) in
        absurd (omega (arith, clash))

-- refusal 3
any_other : (image : List ℕ) → (version_fits image ≡ false) ↔ ((version_of image ≢ 23) × (version_of image ≢ 14) × (version_of image ≢ 15))
unfolding version_fits older
any_other image = (
  (λ e. (
    (λ v. not_both (version_fits image) (or_left _ _ (eq-eqb _ _ v)) e),
    (λ v. not_both (version_fits image) (or_right (eqb (version_of image) 23) _ (or_left _ _ (eq-eqb _ _ v))) e),
    (λ v. not_both (version_fits image) (or_right (eqb (version_of image) 23) _ (or_right (eqb (version_of image) 14) _ (eq-eqb _ _ v))) e),
  )),
  (λ n. rw (ne_eqb _ _ n.0, ne_eqb _ _ n.1, ne_eqb _ _ n.2)),
)

-- a fault that only rules with one test name: that test fails
abbrev OnlyTest : Bool → Refusal → List Rule → Type 0
OnlyTest t target [] = Unit {0}
OnlyTest t target (x ∷ rs) = (x.refusal ≡ target → x.test ≡ t) × OnlyTest t target rs

only_test : (t : Bool) (target : Refusal) (rs : List Rule) (r : Refusal) → r ≡ target → OnlyTest t target rs → FirstFault rs r → t ≡ false
only_test t target (x ∷ rs) r e h (here q) = sym (h.0 e) ∙ q
only_test t target (x ∷ rs) r e h (later q f) = only_test t target rs r e h.1 f
only_test t target [] r e h m = elim m [ ]

elsewhere : {A : Type 0} (r : Refusal) → (r.place ≡ 10 → ⊥) → r ≡ Version at 10 → A
elsewhere r n e = absurd (n (ap (λ (s : Refusal). s.place) e))

version_only : (image : List ℕ) → OnlyTest (version_fits image) (Version at 10) (header_rules image)
unfolding mark_rules seal_rules last_rules
version_only image =
    let between = (fair_places image).between in
    let sentinel = (fair_places image).sentinel in (
      elsewhere _ (λ e. omega arith),
      (elsewhere _ (λ e. omega arith), (elsewhere _ (λ e. omega arith), ((λ e. refl), (elsewhere _ (λ e. omega arith), (elsewhere _ (λ e. omega arith), (elsewhere _ (λ e. omega arith), (elsewhere _ (λ e. omega arith), (elsewhere _ (λ e. omega arith), tt)))))))),
    )

module _ (image : List ℕ) (bounds : length_fits image ≡ true) (magic : magic_fits image ≡ true) (client : client_fits image ≡ true) where
  version_first : FirstFault (header_rules image) (Version at 10) ↔ (version_fits image ≡ false)
  unfolding mark_rules
  version_first = (only_test (version_fits image) (Version at 10) (header_rules image) (Version at 10) refl (version_only image), (λ e. later bounds (later magic (later client (here e)))))

  other_version : (header_outcome image ≡ refused 3 10 0) ↔ ((version_of image ≢ 23) × (version_of image ≢ 14) × (version_of image ≢ 15))
  unfolding refusal_means
  other_version =
      let told = (first_demand.header image).first_fault (Version at 10) in
      ((λ e. (any_other image).0 (version_first.0 (told.0 e))), (λ n. told.1 (version_first.1 ((any_other image).1 n))))

-- demands 2 and 3 over any fair edition
in_edition : (E : Edition) → FairEdition E → InEdition E
in_edition E fair =
    record {
      node_tree = tree_exactly E.nodes;
      block_tree = tree_exactly E.blocks;
      node_lookups = demand3 E.nodes;
      block_lookups = demand3 E.blocks;
      node_listings = listing E.nodes;
      block_listings = listing E.blocks;
      block = checked_exactly E;
      node_data = node_exactly E;
      node_most = node_most E fair;
    }

most_data_lem : (most_data edition64 ≡ 8347696) × (most_data edition32 ≡ 16711740)
unfolding most_data edition64 edition32 trailer64 trailer32 root64 root32
most_data_lem = (refl, refl)

-- 64-bit files
before : (image : List ℕ) → older image ≡ false → AsBefore image
unfolding header_outcome header_of header_fits nodes_outcome blocks_outcome node_outcome block_outcome next_node_outcome next_block_outcome list_area test_outcome read_outcome read_buffer data_outcome data_buffer edition64
before image e =
    let same = newer_is image e in
    record {
      rules = rules_as_before image e;
      header_says = says_as_before image e;
      end = end_as_before image e;
      header = ap₂ (λ (rules : List Rule) (h : Header). header_means (after Err (in_order rules) (Ok h))) (rules_as_before image e) (says_as_before image e);
      check_nodes = ap (λ (E : Edition). verdict_means (tree_fits E.nodes image)) same;
      check_blocks = ap (λ (E : Edition). verdict_means (tree_fits E.blocks image)) same;
      find_node = λ node. ap (λ (E : Edition). node_means (node_of E.nodes image node)) same;
      find_block = λ block. ap (λ (E : Edition). block_means (block_of E.blocks image block)) same;
      next_node = λ from. ap (λ (E : Edition). node_means (next_node_of E.nodes image from)) same;
      next_block = λ from. ap (λ (E : Edition). block_means (next_block_of E.blocks image from)) same;
      find_nodes_area = λ nodes area. ap (λ (E : Edition). area_of E.nodes image nodes area) same;
      test_block = λ block. ap (λ (E : Edition). sized_means (test_of E image block)) same;
      read_block = λ block out. ap (λ (E : Edition). sized_means (read_of E image block (length out))) same;
      read_block_buffer = λ block out. ap (λ (E : Edition). filled_of E image block out) same;
      read_node = λ node out. ap (λ (E : Edition). data_means (answer_to (node_content E image node) (length out))) same;
      read_node_buffer = λ node out. ap (λ (E : Edition). filled_by (node_content E image node) out) same;
    }

not_23 : (image : List ℕ) → version_of image ≡ 23 → OlderVersion image → ⊥
not_23 image e (inl f) = omega (arith, e, f)
not_23 image e (inr f) = omega (arith, e, f)

-- block numbers that four bytes do not hold
compared_large : (number : ℕ) → 2 ^ 32 ≤ number → number < 2 ^ 64 → 256 ^ bbt32.key ≤ compared bbt32 number
unfolding compared as_given significant cleared bbt32
compared_large number h below = let same : number % 256 ^ 8 ≡ number = mod-eq_of_lt below in rw same (omega arith)

large : (image : List ℕ) (number : ℕ) → Bytes image → OlderVersion image → blocks_outcome image ≡ answered [] → 2 ^ 32 ≤ number → number < 2 ^ 64
    → block_outcome image number ≡ absent (length (path bbt32 image number) ∷ [])
unfolding edition32
large image number bytes v ok h below =
    let same : blocks_of image ≡ bbt32 = ap (λ (E : Edition). E.blocks) (older_is image (older_of image v)) in
    let missing = large_missing bbt32 (compared bbt32 number) (compared_large number h below) image bytes in
    ((third_demand.blocks image ok).absent_iff number).1 (subst (λ (L : Layout). Missing (compared L number) (map (key_in L) (scan L image))) (sym same) missing)
    ∙ ap (λ (L : Layout). absent (length (path L image number) ∷ [])) same

rooms : (room32_outcome 1 ≡ 64) × (room32_outcome 52 ≡ 64) × (room32_outcome 53 ≡ 128) × (room32_outcome 8180 ≡ 8192)
unfolding room32_outcome room32 room_for trailer32
rooms = (refl, refl, refl, refl)

bits : (edition64.bits ≡ 64) × (edition32.bits ≡ 32)
unfolding edition64 edition32
bits = (refl, refl)

pub seventh_request : SeventhRequest
seventh_request =
    record {
      by_version = edition_by;
      one_of_two = edition_one_of;
      bits = bits;
      other_version = other_version;
      any_edition = in_edition;
      fair_64 = fair_edition64;
      fair_32 = fair_edition32;
      most = most_data_lem;
      as_before = λ image n. before image (not_older image n);
      version_23 = not_23;
      large_absent = large;
      rooms = rooms;
    }
