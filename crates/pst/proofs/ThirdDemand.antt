-- Demand 3, and what listings tell. Assumes nothing.
use Prim.Native.Nat.{ℕ}
use mathlib.Core.Path.{◌≡◌, refl, sym, ap, ◌∙◌}
use mathlib.Core.Bool.{false}
use mathlib.Core.List.{List, [], ◌∷◌}
use native.Mathlib.Omega.{arith}
use lib.ListN.{length, get_or}
use Rattle.refusal.specs.declared.Refusal.{Refusal}
use Rattle.keys.specs.declared.Sought.TheVariants.{AtLeast}
use Rattle.keys.specs.Search.{with_key}
use Rattle.keys.proofs.FoundLaws.{missing_exactly}
use Rattle.search.specs.Answer.{Answer, found, refused, answer}
use Rattle.search.specs.Answer as search
use Rattle.search.specs.Promises.{Counts}
use Rattle.le.specs.Bytes.{part, field}
use Rattle.edition.specs.declared.Layout.{Layout}
use Rattle.edition.specs.declared.Edition.{Edition}
use Rattle.page.specs.Layout.{compared}
use Rattle.edition.specs.Fair.{FairLayout}
use Rattle.page.specs.Page.{number_in, key_in}
use Rattle.header.specs.Header.{nodes_of, blocks_of}
use Rattle.header.proofs.EditionLaws.{fair_nodes, fair_blocks}
use Rattle.header.proofs.HeaderLaws.{edition_agrees}
use Rattle.tree.specs.Tree.{tree_fits, scan}
use Rattle.tree.specs.Lookup.{lookup, next, path}
use Rattle.tree.specs.Answers.{found_as, column_of, fields_of, shown, node_of, block_of, next_node_of, next_block_of}
use Rattle.tree.proofs.Demand3.{demand3}
use Rattle.tree.proofs.InOrder.{path_counted, in_order_lem}
use Rattle.tree.proofs.OffPath.{off_path, off_read}
use Rattle.tree.proofs.Listing.{listing, lists, few_pages_read}
use Rattle.pst.specs.Meaning.{Meaning, answered, absent, refuses, verdict_means, node_means, block_means, refusal_means}
use Rattle.pst.specs.Meaning as meaning
use Rattle.pst.specs.Outcomes.{nodes_outcome, blocks_outcome, node_outcome, block_outcome, next_node_outcome, next_block_outcome}
use Rattle.pst.specs.Demands.{node_says, block_says, Lookups, Paths, ThirdDemand, FirstValue, Listings}
use Rattle.pst.proofs.Injective.{verdict_injective}
use Rattle.std.specs.Prelude.{Ok, Option, Some, None}

-- the case of a meaning, and the count in a lookup's
unfoldable case_in : Meaning → ℕ
case_in (answered values) = 0
case_in (absent values) = 1
case_in (meaning.refused n place more) = 2

unfoldable count_in : Meaning → ℕ
count_in (answered values) = get_or values 4 0
count_in (absent values) = get_or values 0 0
count_in (meaning.refused n place more) = 0

-- what the calls of a tree say of each case of an answer
record Plain (says : Answer (List ℕ) → Meaning) : Type 0 where
  of_found : (e : List ℕ) (n : ℕ) → (case_in (says (found e n)) ≡ 0) × (count_in (says (found e n)) ≡ n) × (refuses (says (found e n)) ≡ false)
  of_absent : (n : ℕ) → says (search.absent n) ≡ absent (n ∷ [])
  of_refused : (r : Refusal) → case_in (says (refused r)) ≡ 2

node_plain : (L : Layout) → Plain (node_says L)
unfolding case_in count_in refuses node_means refusal_means found_as shown
node_plain L = record { of_found = λ e n. (refl, refl, refl); of_absent = λ n. refl; of_refused = λ r. refl }

block_plain : (L : Layout) → Plain (block_says L)
unfolding case_in count_in refuses block_means refusal_means found_as shown
block_plain L = record { of_found = λ e n. (refl, refl, refl); of_absent = λ n. refl; of_refused = λ r. refl }

module _ (says : Answer (List ℕ) → Meaning) (plain : Plain says) where
  absent_case : (n : ℕ) → case_in (says (search.absent n)) ≡ 1
  unfolding case_in
  absent_case n = ap case_in (plain.of_absent n)

  absent_is : (n m : ℕ) → says (search.absent n) ≡ says (search.absent m) → n ≡ m
  unfolding count_in
  absent_is n m e = ap count_in (sym (plain.of_absent n) ∙ e ∙ plain.of_absent m)

  -- the count of an answer can be told from what is said
  found_counts : (m : ℕ) (a : Answer (List ℕ)) → Counts m a → (e : List ℕ) (n : ℕ) → says a ≡ says (found e n) → n ≡ m
  unfolding Counts
  found_counts m (found d j) h e n q = sym (plain.of_found e n).1 ∙ sym (ap count_in q) ∙ (plain.of_found d j).1 ∙ h
  found_counts m (search.absent j) h e n q = let clash : ◌≡◌ {A = ℕ} 1 0 = sym (absent_case j) ∙ ap case_in q ∙ (plain.of_found e n).0 in absurd (omega arith)
  found_counts m (refused r) h e n q = let clash : ◌≡◌ {A = ℕ} 2 0 = sym (plain.of_refused r) ∙ ap case_in q ∙ (plain.of_found e n).0 in absurd (omega arith)

  absent_counts : (m : ℕ) (a : Answer (List ℕ)) → Counts m a → (n : ℕ) → says a ≡ says (search.absent n) → n ≡ m
  unfolding Counts
  absent_counts m (found d j) h n q = let clash : ◌≡◌ {A = ℕ} 0 1 = sym (plain.of_found d j).0 ∙ ap case_in q ∙ absent_case n in absurd (omega arith)
  absent_counts m (search.absent j) h n q = sym (absent_is j n q) ∙ h
  absent_counts m (refused r) h n q = let clash : ◌≡◌ {A = ℕ} 2 1 = sym (plain.of_refused r) ∙ ap case_in q ∙ absent_case n in absurd (omega arith)

  -- the entry or none is no refusal
  says_answer : (o : Option (List ℕ)) (n : ℕ) → refuses (says (answer o n)) ≡ false
  unfolding answer refuses
  says_answer None n = ap refuses (plain.of_absent n)
  says_answer (Some e) n = (plain.of_found e n).2

  says_none : (o : Option (List ℕ)) (n m : ℕ) → says (answer o n) ≡ absent (m ∷ []) → o ≡ None
  unfolding answer case_in
  says_none None n m e = refl
  says_none (Some e) n m q = let clash : ◌≡◌ {A = ℕ} 0 1 = sym (plain.of_found e n).0 ∙ ap case_in q in absurd (omega arith)

fits : (L : Layout) (image : List ℕ) → verdict_means (tree_fits L image) ≡ answered [] → tree_fits L image ≡ Ok tt
unfolding verdict_means
fits L image e = verdict_injective (tree_fits L image) (Ok tt) e

-- of either tree
module _ (L : Layout) (says : Answer (List ℕ) → Meaning) (plain : Plain says) where
  lookups : (image : List ℕ) → tree_fits L image ≡ Ok tt → Lookups L says (λ key. says (lookup L image key)) image
  unfolding answer
  lookups image ok =
      let d = demand3 L image ok in
      record {
        answers = λ key. ap says (d.answers key);
        never_refused = λ key. ap (λ a. refuses (says a)) (d.answers key) ∙ says_answer says plain (with_key (key_in L) (compared L key) (scan L image)) (length (path L image key));
        ascending = d.ascending;
        absent_iff = λ key. (
          (λ e. (missing_exactly (key_in L) (compared L key) (scan L image)).0 (says_none says plain (with_key (key_in L) (compared L key) (scan L image)) (length (path L image key)) (length (path L image key)) (sym (ap says (d.answers key)) ∙ e))),
          (λ m. ap says (d.answers key ∙ ap (λ o. answer o (length (path L image key))) ((missing_exactly (key_in L) (compared L key) (scan L image)).1 m)) ∙ plain.of_absent _),
        );
        one_route = d.one_route;
      }

-- of either tree in any image: L says which layout the tree of an image has, and images with the same header have the same
module _ (L : List ℕ → Layout) (fair : (image : List ℕ) → FairLayout (L image)) (same : (one other : List ℕ) → part one 0 564 ≡ part other 0 564 → L one ≡ L other)
    (says : Layout → Answer (List ℕ) → Meaning) (plain : (l : Layout) → Plain (says l)) where
  paths : Paths L says (λ image key. says (L image) (lookup (L image) image key))
  paths =
      record {
        found_count = λ image key e n q. found_counts (says (L image)) (plain (L image)) _ (lookup (L image) image key) (path_counted (L image) image key).counts e n q;
        absent_count = λ image key n q. absent_counts (says (L image)) (plain (L image)) _ (lookup (L image) image key) (path_counted (L image) image key).counts n q;
        short = λ image key. (path_counted (L image) image key).short;
        off_path = λ key one other agree.
            ap (says (L one)) (off_path (L one) key one other (fair one) agree) ∙ ap (λ (l : Layout). says l (lookup l other key)) (same one other agree.same_header);
      }

  listings : ((l : Layout) → FairLayout l → (entry : List ℕ) (pages : ℕ) → FirstValue (number_in l entry) (says l (found entry pages)))
      → Listings L says (λ image. verdict_means (tree_fits (L image) image)) (λ image from. says (L image) (next (L image) image from))
  listings handed =
      record {
        answers = λ image from e. let s = (listing (L image) image (fits (L image) image e)).answers from in record { pages = s.count; is = ap (says (L image)) s.is };
        never_refused = λ image from e.
            let s = (listing (L image) image (fits (L image) image e)).answers from in ap (λ a. refuses (says (L image) a)) s.is ∙ says_answer (says (L image)) (plain (L image)) _ _;
        lists = λ image bytes e. lists (L image) image (fair image).asked bytes (fits (L image) image e);
        handed_out = λ image entry pages. handed (L image) (fair image) entry pages;
        found_count = λ image from e n q. found_counts (says (L image)) (plain (L image)) _ (next (L image) image from) (in_order_lem AtLeast (L image) image from).counts e n q;
        absent_count = λ image from n q. absent_counts (says (L image)) (plain (L image)) _ (next (L image) image from) (in_order_lem AtLeast (L image) image from).counts n q;
        few = λ image from. few_pages_read (L image) image from;
        off_read = λ from one other agree.
            ap (says (L one)) (off_read AtLeast (L one) from one other (fair one) agree) ∙ ap (λ (l : Layout). says l (next l other from)) (same one other agree.same_header);
      }

same_nodes : (one other : List ℕ) → part one 0 564 ≡ part other 0 564 → nodes_of one ≡ nodes_of other
same_nodes one other e = ap (λ (E : Edition). E.nodes) (edition_agrees one other e)

same_blocks : (one other : List ℕ) → part one 0 564 ≡ part other 0 564 → blocks_of one ≡ blocks_of other
same_blocks one other e = ap (λ (E : Edition). E.blocks) (edition_agrees one other e)

node_lookups : (image : List ℕ) → nodes_outcome image ≡ answered [] → Lookups (nodes_of image) (node_says (nodes_of image)) (node_outcome image) image
unfolding nodes_outcome node_outcome node_of
node_lookups image e = lookups (nodes_of image) (node_says (nodes_of image)) (node_plain (nodes_of image)) image (fits (nodes_of image) image e)

block_lookups : (image : List ℕ) → blocks_outcome image ≡ answered [] → Lookups (blocks_of image) (block_says (blocks_of image)) (block_outcome image) image
unfolding blocks_outcome block_outcome block_of
block_lookups image e = lookups (blocks_of image) (block_says (blocks_of image)) (block_plain (blocks_of image)) image (fits (blocks_of image) image e)

node_paths : Paths nodes_of node_says node_outcome
unfolding node_outcome node_of
node_paths = paths nodes_of fair_nodes same_nodes node_says node_plain

block_paths : Paths blocks_of block_says block_outcome
unfolding block_outcome block_of
block_paths = paths blocks_of fair_blocks same_blocks block_says block_plain

pub third_demand : ThirdDemand
third_demand = record { nodes = node_lookups; blocks = block_lookups; node_paths = node_paths; block_paths = block_paths }

-- beyond the demands: the first number of an entry is the one at its front
first_column : (L : Layout) → FairLayout L → (entry : List ℕ) → column_of entry L.first ≡ number_in L entry
unfolding number_in
first_column L fair entry = ap (λ (place : ℕ). field entry place L.first.width) fair.front.0 ∙ ap (field entry 0) fair.front.1

node_handed : (L : Layout) → FairLayout L → (entry : List ℕ) (pages : ℕ) → FirstValue (number_in L entry) (node_says L (found entry pages))
unfolding node_means found_as shown fields_of
node_handed L fair entry pages =
    let others = column_of entry L.second ∷ column_of entry L.third ∷ column_of entry L.fourth ∷ pages ∷ [] in
    record { others = others; is = ap (λ (n : ℕ). answered (n ∷ others)) (first_column L fair entry) }

block_handed : (L : Layout) → FairLayout L → (entry : List ℕ) (pages : ℕ) → FirstValue (number_in L entry) (block_says L (found entry pages))
unfolding block_means found_as shown fields_of
block_handed L fair entry pages =
    let others = column_of entry L.second ∷ column_of entry L.third ∷ column_of entry L.fourth ∷ pages ∷ [] in
    record { others = others; is = ap (λ (n : ℕ). answered (n ∷ others)) (first_column L fair entry) }

pub node_listings : Listings nodes_of node_says nodes_outcome next_node_outcome
unfolding nodes_outcome next_node_outcome next_node_of
node_listings = listings nodes_of fair_nodes same_nodes node_says node_plain node_handed

pub block_listings : Listings blocks_of block_says blocks_outcome next_block_outcome
unfolding blocks_outcome next_block_outcome next_block_of
block_listings = listings blocks_of fair_blocks same_blocks block_says block_plain block_handed
