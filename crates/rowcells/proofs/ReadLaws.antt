-- What is answered for a row, and the area then. Assumes nothing.
use Prim.Native.Nat.{ℕ, ◌+◌, ◌*◌, ◌/◌, ◌≤◌, ◌<◌}
use mathlib.Core.Path.{◌≡◌, refl, sym, ap, ◌∙◌}
use mathlib.Core.Bool.{Bool, true, false, cond}
use mathlib.Core.Logic.{◌↔◌}
use mathlib.Core.List.{List, []}
use native.Mathlib.Omega.{arith}
use lib.Dec.{leb}
use lib.ListN.{length, get_or, take, drop, length-append, length-drop}
use lib.Seq.{drop_at}
use borrow.Author.Tests.{le-leb, lt-leb, leb-true, leb-false}
use Rattle.laws.specs.Front.{fronted}
use Rattle.le.specs.Bytes.{part}
use Rattle.refusal.specs.declared.Fault.TheVariants.{ShortBuffer}
use Rattle.refusal.specs.declared.Refusal.{Refusal}
use Rattle.refusal.specs.Order.{Verdict, ◌needing◌, demand, in_order, after, ◌then◌, FirstFault}
use Rattle.refusal.proofs.OrderLaws.{goes, ends, then_accepted, in_order_append, refusal_in, refusal_after, told_exactly}
use Rattle.keys.proofs.Pieces.{pieces_length, piece_at}
use Rattle.columns.specs.Record.{column_count}
use Rattle.columns.specs.Columns.{tags}
use Rattle.columns.proofs.SeatLaws.{tags_length}
use Rattle.table.specs.Context.{table_record, TableSound}
use Rattle.cells.specs.Rows.{row_bytes, rows_rules, rows_test, row_count}
use Rattle.cells.proofs.HeldLaws.{rows_exactly}
use Rattle.rowcells.specs.RowCells.{area_rules, place_of, places_of, is_there, read_row_rules, row_read, row_area}
use Rattle.rowcells.proofs.Words.{place_length}
use Rattle.std.specs.Prelude.{Option, Some, None, Result, Ok, Err}

-- the area's rule
area_short : (columns words : ℕ) → words / 6 < columns → in_order (area_rules columns words) ≡ Err (ShortBuffer needing columns)
unfolding area_rules in_order demand after
area_short columns words h = rw (lt-leb columns (words / 6) h)

area_long : (columns words : ℕ) → columns ≤ words / 6 → in_order (area_rules columns words) ≡ Ok tt
unfolding area_rules in_order demand after
area_long columns words h = rw (le-leb columns (words / 6) h)

module _ (block rows : List ℕ) (row : ℕ) where
  abbrev count : ℕ
  count = row_count (table_record block) (row_bytes block rows)

  module _ (r : Refusal) (e : rows_test block rows ≡ Err r) where
    pub read_refused : (words : ℕ) → row_read block rows row words ≡ Err r
    unfolding row_read
    read_refused words = ends Err _ _ r e

    pub area_refused : (area : List ℕ) → row_area block rows row area ≡ area
    unfolding row_area
    area_refused area = ends (λ refusal. area) _ _ r e

  module _ (held : rows_test block rows ≡ Ok tt) where
    on_read : (words : ℕ) (b : Bool) → is_there block rows row ≡ b → row_read block rows row words ≡ cond b (after Err (in_order (area_rules (column_count (table_record block)) words)) (Ok (Some (column_count (table_record block))))) (Ok None)
    unfolding row_read
    on_read words b t = goes Err _ _ held ∙ ap (λ (x : Bool). cond x (after Err (in_order (area_rules (column_count (table_record block)) words)) (Ok (Some (column_count (table_record block))))) (Ok None)) t

    on_area : (area : List ℕ) (b : Bool) → is_there block rows row ≡ b → row_area block rows row area ≡ cond b (after (λ refusal. area) (in_order (area_rules (column_count (table_record block)) (length area))) (fronted (places_of block rows row) area)) area
    unfolding row_area
    on_area area b t =
        goes (λ refusal. area) _ _ held
        ∙ ap (λ (x : Bool). cond x (after (λ refusal. area) (in_order (area_rules (column_count (table_record block)) (length area))) (fronted (places_of block rows row) area)) area) t

    module _ (past : count < row + 1) where
      pub read_absent : (words : ℕ) → row_read block rows row words ≡ Ok None
      read_absent words = on_read words false (lt-leb (row + 1) count past)

      pub area_absent : (area : List ℕ) → row_area block rows row area ≡ area
      area_absent area = on_area area false (lt-leb (row + 1) count past)

    module _ (there : row + 1 ≤ count) where
      pub read_short : (words : ℕ) → words / 6 < column_count (table_record block) → row_read block rows row words ≡ Err (ShortBuffer needing column_count (table_record block))
      read_short words h = on_read words true (le-leb (row + 1) count there) ∙ ends Err _ _ _ (area_short _ words h)

      pub area_kept : (area : List ℕ) → length area / 6 < column_count (table_record block) → row_area block rows row area ≡ area
      area_kept area h = on_area area true (le-leb (row + 1) count there) ∙ ends (λ refusal. area) _ _ _ (area_short _ (length area) h)

      pub read_cells : (words : ℕ) → column_count (table_record block) ≤ words / 6 → row_read block rows row words ≡ Ok (Some (column_count (table_record block)))
      read_cells words h = on_read words true (le-leb (row + 1) count there) ∙ goes Err _ _ (area_long _ words h)

      pub area_filled : (area : List ℕ) → column_count (table_record block) ≤ length area / 6 → row_area block rows row area ≡ fronted (places_of block rows row) area
      area_filled area h = on_area area true (le-leb (row + 1) count there) ∙ goes (λ refusal. area) _ _ (area_long _ (length area) h)

module _ (block rows : List ℕ) (row words : ℕ) where
  inside : Bool → Result (Option ℕ) Refusal
  inside b = cond b (after Err (in_order (area_rules (column_count (table_record block)) words)) (Ok (Some (column_count (table_record block))))) (Ok None)

  inside_tried : (b : Bool) → in_order (cond b (area_rules (column_count (table_record block)) words) []) ≡ refusal_in (inside b)
  unfolding inside in_order refusal_in
  inside_tried true =
      sym (refusal_after (in_order (area_rules (column_count (table_record block)) words)) (Ok (Some (column_count (table_record block)))) ∙ then_accepted (in_order (area_rules (column_count (table_record block)) words)))
  inside_tried false = refl

  read_tried : in_order (read_row_rules block rows row words) ≡ refusal_in (row_read block rows row words)
  unfolding read_row_rules row_read rows_test inside
  read_tried =
      in_order_append (rows_rules block rows) (cond (is_there block rows row) (area_rules (column_count (table_record block)) words) [])
      ∙ ap (λ (v : Verdict). in_order (rows_rules block rows) then v) (inside_tried (is_there block rows row))
      ∙ sym (refusal_after (in_order (rows_rules block rows)) (inside (is_there block rows row)))

  -- refused exactly with the first fault
  pub read_refused_exactly : (r : Refusal) → (row_read block rows row words ≡ Err r) ↔ FirstFault (read_row_rules block rows row words) r
  read_refused_exactly r = told_exactly _ _ read_tried r

-- what holds where so many cells are answered for an area of so many words
abbrev pub Taken : List ℕ → List ℕ → ℕ → ℕ → ℕ → Type 0
Taken block rows row words n =
    (rows_test block rows ≡ Ok tt) × (row + 1 ≤ row_count (table_record block) (row_bytes block rows)) × (column_count (table_record block) ≤ words / 6) × (n ≡ column_count (table_record block))

module _ (block rows : List ℕ) (row words n : ℕ) where
  pub cells_say : row_read block rows row words ≡ Ok (Some n) → Taken block rows row words n
  cells_say e = by (rows_test block rows) refl
    where
      wrong : {A : Type 0} → (x : Result (Option ℕ) Refusal) → row_read block rows row words ≡ x → x ≡ Ok None → A
      wrong x f g = cc

      refusing : {A : Type 0} → (x : Result (Option ℕ) Refusal) (r : Refusal) → row_read block rows row words ≡ x → x ≡ Err r → A
      refusing x r f g = cc

      long : rows_test block rows ≡ Ok tt → row + 1 ≤ row_count (table_record block) (row_bytes block rows) → (b : Bool) → leb (column_count (table_record block)) (words / 6) ≡ b
          → Taken block rows row words n
      long held there true t =
          let enough = leb-true (column_count (table_record block)) (words / 6) t in
          let same = sym e ∙ read_cells block rows row held there words enough in
          (held, there, enough, cc)
      long held there false t = refusing _ _ (read_short block rows row held there words (leb-false (column_count (table_record block)) (words / 6) t)) refl

      inside_by : rows_test block rows ≡ Ok tt → (b : Bool) → leb (row + 1) (row_count (table_record block) (row_bytes block rows)) ≡ b
          → Taken block rows row words n
      inside_by held true t = long held (leb-true (row + 1) (row_count (table_record block) (row_bytes block rows)) t) (leb (column_count (table_record block)) (words / 6)) refl
      inside_by held false t = wrong _ (read_absent block rows row held (leb-false (row + 1) (row_count (table_record block) (row_bytes block rows)) t) words) refl

      by : (v : Verdict) → rows_test block rows ≡ v
          → Taken block rows row words n
      by (Ok tt) held = inside_by held (leb (row + 1) (row_count (table_record block) (row_bytes block rows))) refl
      by (Err r) f = refusing _ r (read_refused block rows row r f words) refl

-- the area, part by part
module _ (block rows area : List ℕ) (row n : ℕ) (e : row_read block rows row (length area) ≡ Ok (Some n)) where
  said : Taken block rows row (length area) n
  said = cells_say block rows row (length area) n e

  sound : TableSound block
  sound = ((rows_exactly block rows).0 said.0).0

  filled : row_area block rows row area ≡ fronted (places_of block rows row) area
  filled = area_filled block rows row said.0 said.1 area said.2

  -- the place of the i-th column
  pub place_is : (i : ℕ) → i < column_count (table_record block) → part (row_area block rows row area) (6 * i) 6 ≡ place_of block rows row (get_or (tags (table_record block)) i 0)
  unfolding part
  place_is i h =
      ap (λ (s : List ℕ). take 6 (drop (6 * i) s)) filled
      ∙ piece_at (place_of block rows row) 6 (place_length block rows row) (tags (table_record block)) _ i (rw (tags_length (table_record block) sound.shape) h)

  long : length (places_of block rows row) ≡ 6 * column_count (table_record block)
  long = pieces_length (place_of block rows row) 6 (place_length block rows row) (tags (table_record block)) ∙ ap (λ (k : ℕ). 6 * k) (tags_length (table_record block) sound.shape)

  -- what lies behind the places stays, and so does the length
  pub past_stays : drop (6 * column_count (table_record block)) (row_area block rows row area) ≡ drop (6 * column_count (table_record block)) area
  past_stays =
      ap (drop (6 * column_count (table_record block))) filled
      ∙ drop_at (places_of block rows row) (drop (length (places_of block rows row)) area) (6 * column_count (table_record block)) long
      ∙ ap (λ (k : ℕ). drop k area) long

  pub area_length : length (row_area block rows row area) ≡ length area
  area_length =
      ap length filled
      ∙ length-append (places_of block rows row) (drop (length (places_of block rows row)) area)
      ∙ omega (arith, long, length-drop (length (places_of block rows row)) area, said.2)

-- an answer that names no cells leaves the area
module _ (block rows area : List ℕ) (row : ℕ) where
  pub left_alone : (x : Result (Option ℕ) Refusal) → row_read block rows row (length area) ≡ x → ((n : ℕ) → x ≡ Ok (Some n) → ⊥) → row_area block rows row area ≡ area
  left_alone x e none = by (rows_test block rows) refl
    where
      long : rows_test block rows ≡ Ok tt → row + 1 ≤ row_count (table_record block) (row_bytes block rows) → (b : Bool) → leb (column_count (table_record block)) (length area / 6) ≡ b → row_area block rows row area ≡ area
      long held there true t = absurd (none (column_count (table_record block)) (sym e ∙ read_cells block rows row held there (length area) (leb-true (column_count (table_record block)) (length area / 6) t)))
      long held there false t = area_kept block rows row held there area (leb-false (column_count (table_record block)) (length area / 6) t)

      inside_by : rows_test block rows ≡ Ok tt → (b : Bool) → leb (row + 1) (row_count (table_record block) (row_bytes block rows)) ≡ b → row_area block rows row area ≡ area
      inside_by held true t = long held (leb-true (row + 1) (row_count (table_record block) (row_bytes block rows)) t) (leb (column_count (table_record block)) (length area / 6)) refl
      inside_by held false t = area_absent block rows row held (leb-false (row + 1) (row_count (table_record block) (row_bytes block rows)) t) area

      by : (v : Verdict) → rows_test block rows ≡ v → row_area block rows row area ≡ area
      by (Ok tt) held = inside_by held (leb (row + 1) (row_count (table_record block) (row_bytes block rows))) refl
      by (Err r) f = area_refused block rows row r f area
