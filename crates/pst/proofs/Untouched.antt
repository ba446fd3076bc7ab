-- Document 01, "Refusal numbers": a refusal "leaves every output buffer untouched". Assumes nothing.
use Prim.Native.Nat.{ℕ, ◌<◌}
use mathlib.Core.Path.{◌≡◌, refl, sym}
use mathlib.Core.Bool.{Bool, true, false, cond}
use mathlib.Core.List.{List}
use native.Mathlib.Omega.{arith}
use lib.Dec.{leb}
use lib.ListN.{length}
use borrow.Author.Tests.{leb-false}
use Rattle.laws.proofs.Tests.{not_both}
use Rattle.refusal.specs.declared.Fault.TheVariants.{Encoding, ShortBuffer}
use Rattle.refusal.specs.Order.{Verdict, ◌at◌, ◌needing◌, demand}
use Rattle.coding.specs.Coding.{method_fits, coded}
use Rattle.coding.specs.Table.{R, I}
use Rattle.coding.proofs.CodingLaws.{coded_none}
use Rattle.nodelist.specs.Places.{list_fits, area_of}
use Rattle.nodelist.proofs.ListLaws.{area_left}
use Rattle.laws.specs.Front.{fronted}
use Rattle.block.specs.Block.{checked_block, block_bytes, fitting, read_in, read_of, filled_in, filled_of}
use Rattle.node.specs.Content.{Content, node_content, answer_to, filled_by}
use Rattle.node.specs.Content as content
use Rattle.rowcells.specs.RowCells.{row_read, row_area}
use Rattle.rowcells.proofs.ReadLaws.{left_alone}
use Rattle.header.specs.Header.{edition_of, nodes_of}
use Rattle.pst.specs.Meaning.{refuses, verdict_means, sized_means, data_means, cells_means}
use Rattle.pst.specs.Outcomes.{list_outcome, list_area, read_outcome, read_buffer, data_outcome, data_buffer, read_row_outcome, read_row_area, code_outcome, encode_buffer, decode_buffer}
use Rattle.std.specs.Prelude.{Option, Some, None, Result, Ok, Err}
use Rattle.refusal.specs.declared.Refusal.{Refusal}
use Rattle.tree.specs.declared.Listed.{Listed}

checked_untouched : (image : List ℕ) (c : Result Listed Refusal) (out : List ℕ) → refuses (sized_means (read_in c (length out))) ≡ true → filled_in image c out ≡ out
unfolding refuses sized_means read_in fitting filled_in
checked_untouched image (Ok b) out e = by_length (leb b.size (length out)) e
  where
    by_length : (w : Bool) → refuses (sized_means (cond w (Ok b.size) (Err (ShortBuffer needing b.size)))) ≡ true
        → cond w (fronted (block_bytes image b) out) out ≡ out
    by_length true h = not_both false h refl
    by_length false h = refl
checked_untouched image (Err r) out e = refl

pub read_untouched : (image : List ℕ) (block : ℕ) (out : List ℕ) → refuses (read_outcome image block out) ≡ true → read_buffer image block out ≡ out
unfolding read_outcome read_buffer read_of filled_of
read_untouched image block out e = checked_untouched image (checked_block (edition_of image) image block) out e

content_untouched : (c : Content) (out : List ℕ) → refuses (data_means (answer_to c (length out))) ≡ true → filled_by c out ≡ out
unfolding refuses data_means answer_to filled_by
content_untouched (content.bytes s) out e = by_length (leb (length s) (length out)) e
  where
    by_length : (w : Bool) → refuses (data_means (cond w (Ok (Some (length s))) (Err (ShortBuffer needing length s)))) ≡ true → cond w (fronted s out) out ≡ out
    by_length true h = not_both false h refl
    by_length false h = refl
content_untouched content.absent out e = refl
content_untouched (content.refused r) out e = refl

pub data_untouched : (image : List ℕ) (node : ℕ) (out : List ℕ) → refuses (data_outcome image node out) ≡ true → data_buffer image node out ≡ out
unfolding data_outcome data_buffer
data_untouched image node out e = content_untouched (node_content (edition_of image) image node) out e

pub list_untouched : (image nodes area : List ℕ) → refuses (list_outcome nodes area) ≡ true → list_area image nodes area ≡ area
unfolding list_outcome list_area refuses verdict_means
list_untouched image nodes area = by (list_fits (length nodes) (length area)) refl
  where
    by : (v : Verdict) → list_fits (length nodes) (length area) ≡ v → refuses (verdict_means v) ≡ true → area_of (nodes_of image) image nodes area ≡ area
    by (Ok tt) q h = not_both false h refl
    by (Err r) q h = sym (area_left (nodes_of image) image nodes area r (sym q))

pub row_untouched : (block rows : List ℕ) (row : ℕ) (area : List ℕ) → refuses (read_row_outcome block rows row area) ≡ true → read_row_area block rows row area ≡ area
unfolding read_row_outcome read_row_area refuses cells_means
row_untouched block rows row area = by (row_read block rows row (length area)) refl
  where
    by : (x : Result (Option ℕ) Refusal) → row_read block rows row (length area) ≡ x → refuses (cells_means x) ≡ true → row_area block rows row area ≡ area
    by (Ok (Some n)) q h = not_both false h refl
    by (Ok None) q h = not_both false h refl
    by (Err r) q h = left_alone block rows area row (Err r) q (λ n e. let clash : ◌≡◌ {A = ℕ} 0 1 = cc in omega arith)

over_two : (method : ℕ) → refuses (code_outcome method) ≡ true → 2 < method
unfolding refuses code_outcome verdict_means method_fits demand
over_two method = by_test (leb method 2) refl
  where
    by_test : (w : Bool) → leb method 2 ≡ w → refuses (verdict_means (demand w (Encoding at 0))) ≡ true → 2 < method
    by_test true q e = not_both false e refl
    by_test false q e = leb-false method 2 q

coded_untouched : (f : ℕ → ℕ) (method block : ℕ) (bytes : List ℕ) → refuses (code_outcome method) ≡ true → coded f method block bytes ≡ bytes
coded_untouched f method block bytes e =
    let over = over_two method e in coded_none f method block bytes (λ (d : method ≡ 1). omega arith) (λ (d : method ≡ 2). omega arith)

pub encode_untouched : (method block : ℕ) (bytes : List ℕ) → refuses (code_outcome method) ≡ true → encode_buffer method block bytes ≡ bytes
unfolding encode_buffer
encode_untouched method block bytes e = coded_untouched R method block bytes e

pub decode_untouched : (method block : ℕ) (bytes : List ℕ) → refuses (code_outcome method) ≡ true → decode_buffer method block bytes ≡ bytes
unfolding decode_buffer
decode_untouched method block bytes e = coded_untouched I method block bytes e
