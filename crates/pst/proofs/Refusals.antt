-- A call's refusal is the first fault of the rules that it tries. Assumes nothing.
use Prim.Native.Nat.{ℕ}
use mathlib.Core.Path.{◌≡◌, refl, sym, ap, ◌∙◌}
use mathlib.Core.Logic.{◌↔◌}
use mathlib.Core.List.{List}
use Rattle.refusal.specs.declared.Refusal.{Refusal}
use Rattle.refusal.specs.Order.{Verdict, Rule, in_order, after, FirstFault}
use Rattle.refusal.proofs.OrderLaws.{refused_exactly}
use Rattle.search.specs.Answer.{Answer, found, absent, refused}
use Rattle.search.proofs.Tried.{verdict_of}
use Rattle.header.specs.declared.Header.{Header}
use Rattle.edition.specs.declared.Layout.{Layout}
use Rattle.tree.specs.Answers.{found_as, shown, as_node, as_block}
use Rattle.block.proofs.TriedLaws.{sized_verdict}
use Rattle.node.proofs.TriedLaws.{read_verdict}
use Rattle.pst.specs.Meaning.{Meaning, refusal_means, verdict_means, header_means, node_means, block_means, sized_means, data_means, span_means, property_means, table_means, column_means, count_means, cell_means, row_means, cells_means}
use Rattle.pst.specs.Demands.{Told}
use Rattle.pst.proofs.Injective.{verdict_injective, header_injective, node_injective, block_injective, sized_injective, data_injective, span_injective, property_injective, table_injective, column_injective, count_injective, cell_injective, row_injective, cells_injective}
use Rattle.std.specs.Prelude.{Option, Some, None, Result, Ok, Err}
use Rattle.tree.specs.declared.Found.{Found}
use Rattle.tree.specs.declared.Node.{Node}
use Rattle.tree.specs.declared.Listed.{Listed}
use Rattle.heap.specs.declared.Span.{Span}
use Rattle.property.specs.declared.Property.{Property}
use Rattle.table.specs.declared.Table.{Table}
use Rattle.columns.specs.declared.Column.{Column}
use Rattle.cells.specs.declared.Cell.{Cell}
use Rattle.tree.specs.declared.Found.TheVariants.{Absent, Entry}

-- answers of one kind, with the answer that is a refusal
module _ {A : Type 0} (means : A → Meaning) (wrong : Refusal → A) (injective : (x y : A) → means x ≡ means y → x ≡ y) (says : (r : Refusal) → means (wrong r) ≡ refusal_means r) where
  told_exactly : (x : A) (rules : List Rule) → ((r : Refusal) → (x ≡ wrong r) ↔ FirstFault rules r) → Told means rules (means x)
  told_exactly x rules exactly =
      record {
        single = λ one other e f. injective one other (e ∙ sym f);
        first_fault = λ r. (
          (λ e. (exactly r).0 (injective x (wrong r) (e ∙ sym (says r)))),
          (λ f. ap means ((exactly r).1 f) ∙ says r),
        );
      }

  -- by the verdict that an answer holds
  module _ (verdict : A → Verdict) (back : (x : A) (r : Refusal) → verdict x ≡ Err r → x ≡ wrong r) (there : (r : Refusal) → verdict (wrong r) ≡ Err r) where
    told_tried : (x : A) (rules : List Rule) → in_order rules ≡ verdict x → Told means rules (means x)
    told_tried x rules tried =
        told_exactly x rules (λ r. (
          (λ e. (refused_exactly rules r).0 (tried ∙ ap verdict e ∙ there r)),
          (λ f. back x r (sym tried ∙ (refused_exactly rules r).1 f)),
        ))

pub verdict_told : (v : Verdict) (rules : List Rule) → in_order rules ≡ v → Told verdict_means rules (verdict_means v)
unfolding verdict_means
verdict_told v rules tried = told_tried verdict_means Err verdict_injective (λ r. refl) (λ w. w) (λ w r e. e) (λ r. refl) v rules tried

-- the verdict in each kind of answer
unfoldable pub header_verdict_lem : Result Header Refusal → Verdict
header_verdict_lem (Ok h) = Ok tt
header_verdict_lem (Err r) = Err r

header_back : (x : Result Header Refusal) (r : Refusal) → header_verdict_lem x ≡ Err r → x ≡ Err r
unfolding header_verdict_lem
header_back (Ok h) r e = cc
header_back (Err s) r e = cc

pub header_verdict : (v : Verdict) (h : Header) → v ≡ header_verdict_lem (after Err v (Ok h))
unfolding header_verdict_lem after
header_verdict (Ok tt) h = refl
header_verdict (Err r) h = refl

pub header_told : (x : Result Header Refusal) (rules : List Rule) → in_order rules ≡ header_verdict_lem x → Told header_means rules (header_means x)
unfolding header_means header_verdict_lem
header_told x rules tried = told_tried header_means Err header_injective (λ r. refl) header_verdict_lem header_back (λ r. refl) x rules tried

node_verdict_lem : Result (Found Node) Refusal → Verdict
node_verdict_lem (Ok (Entry n pages)) = Ok tt
node_verdict_lem (Ok (Absent pages)) = Ok tt
node_verdict_lem (Err r) = Err r

node_back : (x : Result (Found Node) Refusal) (r : Refusal) → node_verdict_lem x ≡ Err r → x ≡ Err r
unfolding node_verdict_lem
node_back (Ok (Entry n pages)) r e = cc
node_back (Ok (Absent pages)) r e = cc
node_back (Err s) r e = cc

node_verdict : (L : Layout) (a : Answer (List ℕ)) → verdict_of a ≡ node_verdict_lem (as_node (shown L a))
unfolding verdict_of node_verdict_lem found_as shown
node_verdict L (found e n) = refl
node_verdict L (absent n) = refl
node_verdict L (refused r) = refl

pub node_told : (L : Layout) (a : Answer (List ℕ)) (rules : List Rule) → in_order rules ≡ verdict_of a → Told node_means rules (node_means (as_node (shown L a)))
unfolding node_means node_verdict_lem
node_told L a rules tried =
    told_tried node_means Err node_injective (λ r. refl) node_verdict_lem node_back (λ r. refl) (as_node (shown L a)) rules (tried ∙ node_verdict L a)

block_verdict_lem : Result (Found Listed) Refusal → Verdict
block_verdict_lem (Ok (Entry b pages)) = Ok tt
block_verdict_lem (Ok (Absent pages)) = Ok tt
block_verdict_lem (Err r) = Err r

block_back : (x : Result (Found Listed) Refusal) (r : Refusal) → block_verdict_lem x ≡ Err r → x ≡ Err r
unfolding block_verdict_lem
block_back (Ok (Entry b pages)) r e = cc
block_back (Ok (Absent pages)) r e = cc
block_back (Err s) r e = cc

block_verdict : (L : Layout) (a : Answer (List ℕ)) → verdict_of a ≡ block_verdict_lem (as_block (shown L a))
unfolding verdict_of block_verdict_lem found_as shown
block_verdict L (found e n) = refl
block_verdict L (absent n) = refl
block_verdict L (refused r) = refl

pub block_told : (L : Layout) (a : Answer (List ℕ)) (rules : List Rule) → in_order rules ≡ verdict_of a → Told block_means rules (block_means (as_block (shown L a)))
unfolding block_means block_verdict_lem
block_told L a rules tried =
    told_tried block_means Err block_injective (λ r. refl) block_verdict_lem block_back (λ r. refl) (as_block (shown L a)) rules (tried ∙ block_verdict L a)

sized_back : (x : Result ℕ Refusal) (r : Refusal) → sized_verdict x ≡ Err r → x ≡ Err r
unfolding sized_verdict
sized_back (Ok n) r e = cc
sized_back (Err s) r e = cc

pub sized_told : (x : Result ℕ Refusal) (rules : List Rule) → in_order rules ≡ sized_verdict x → Told sized_means rules (sized_means x)
unfolding sized_means sized_verdict
sized_told x rules tried = told_tried sized_means Err sized_injective (λ r. refl) sized_verdict sized_back (λ r. refl) x rules tried

data_back : (x : Result (Option ℕ) Refusal) (r : Refusal) → read_verdict x ≡ Err r → x ≡ Err r
unfolding read_verdict
data_back (Ok (Some n)) r e = cc
data_back (Ok None) r e = cc
data_back (Err s) r e = cc

pub data_told : (x : Result (Option ℕ) Refusal) (rules : List Rule) → in_order rules ≡ read_verdict x → Told data_means rules (data_means x)
unfolding data_means read_verdict
data_told x rules tried = told_tried data_means Err data_injective (λ r. refl) read_verdict data_back (λ r. refl) x rules tried

span_verdict_lem : Result Span Refusal → Verdict
span_verdict_lem (Ok span) = Ok tt
span_verdict_lem (Err r) = Err r

span_back : (x : Result Span Refusal) (r : Refusal) → span_verdict_lem x ≡ Err r → x ≡ Err r
unfolding span_verdict_lem
span_back (Ok span) r e = cc
span_back (Err s) r e = cc

span_verdict : (v : Verdict) (start length : ℕ) → v ≡ span_verdict_lem (after Err v (Ok (record { start = start; length = length })))
unfolding span_verdict_lem after
span_verdict (Ok tt) start length = refl
span_verdict (Err r) start length = refl

pub span_told : (v : Verdict) (start length : ℕ) (rules : List Rule) → in_order rules ≡ v → Told span_means rules (span_means (after Err v (Ok (record { start = start; length = length }))))
unfolding span_means span_verdict_lem
span_told v start length rules tried =
    told_tried span_means Err span_injective (λ r. refl) span_verdict_lem span_back (λ r. refl) (after Err v (Ok (record { start = start; length = length }))) rules (tried ∙ span_verdict v start length)

pub property_told : (x : Result (Option Property) Refusal) (rules : List Rule) → ((r : Refusal) → (x ≡ Err r) ↔ FirstFault rules r) → Told property_means rules (property_means x)
unfolding property_means
property_told x rules exactly = told_exactly property_means Err property_injective (λ r. refl) x rules exactly

-- a table's answers, each by what its layer says of its refusals
pub table_told : (x : Result Table Refusal) (rules : List Rule) → ((r : Refusal) → (x ≡ Err r) ↔ FirstFault rules r) → Told table_means rules (table_means x)
unfolding table_means
table_told x rules exactly = told_exactly table_means Err table_injective (λ r. refl) x rules exactly

pub column_told : (x : Result (Option Column) Refusal) (rules : List Rule) → ((r : Refusal) → (x ≡ Err r) ↔ FirstFault rules r) → Told column_means rules (column_means x)
unfolding column_means
column_told x rules exactly = told_exactly column_means Err column_injective (λ r. refl) x rules exactly

pub count_told : (x : Result ℕ Refusal) (rules : List Rule) → ((r : Refusal) → (x ≡ Err r) ↔ FirstFault rules r) → Told count_means rules (count_means x)
unfolding count_means
count_told x rules exactly = told_exactly count_means Err count_injective (λ r. refl) x rules exactly

pub cell_told : (x : Result (Option Cell) Refusal) (rules : List Rule) → ((r : Refusal) → (x ≡ Err r) ↔ FirstFault rules r) → Told cell_means rules (cell_means x)
unfolding cell_means
cell_told x rules exactly = told_exactly cell_means Err cell_injective (λ r. refl) x rules exactly

pub row_told : (x : Result (Option ℕ) Refusal) (rules : List Rule) → ((r : Refusal) → (x ≡ Err r) ↔ FirstFault rules r) → Told row_means rules (row_means x)
unfolding row_means
row_told x rules exactly = told_exactly row_means Err row_injective (λ r. refl) x rules exactly

pub cells_told : (x : Result (Option ℕ) Refusal) (rules : List Rule) → ((r : Refusal) → (x ≡ Err r) ↔ FirstFault rules r) → Told cells_means rules (cells_means x)
unfolding cells_means
cells_told x rules exactly = told_exactly cells_means Err cells_injective (λ r. refl) x rules exactly
