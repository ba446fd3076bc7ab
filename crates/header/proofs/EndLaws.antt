-- Images that are alike to the file's end: which they are, and that their headers are answered alike. Assumes nothing.
use Prim.Native.Nat.{ℕ, ◌+◌, ◌≤◌}
use mathlib.Core.Path.{◌≡◌, sym, ap, ap₂, ◌∙◌}
use mathlib.Core.Bool.{true, false}
use mathlib.Core.Logic.{◌↔◌}
use mathlib.Core.List.{List, [], ◌∷◌, ◌++◌}
use native.Mathlib.Omega.{arith}
use lib.ListN.{length, length-append}
use borrow.Author.Tests.{le-leb, lt-leb, leb-false}
use Rattle.le.specs.Bytes.{part}
use Rattle.le.proofs.FieldLaws.{part_kept}
use Rattle.refusal.specs.declared.Fault.TheVariants.{ImageLength, Encoding}
use Rattle.refusal.specs.declared.Refusal.{Refusal}
use Rattle.refusal.specs.Order.{Verdict, ◌at◌, after, Rule, rule, AllHold, none, both, FirstFault}
use Rattle.refusal.proofs.OrderLaws.{Each, last_exactly, hold_apart, hold_both}
use Rattle.header.specs.declared.Header.{Header}
use Rattle.header.specs.Header.{edition_of, method_place, encoding_fits, end_place, stated_end, end_fits, mark_rules, seal_rules, last_rules, header_rules, header_fits, method_of, header_of, file_end}
use Rattle.header.specs.End.{Above, AlikeToEnd, Hanging, LooksToEnd}
use Rattle.header.proofs.EditionLaws.{fair_places}
use Rattle.header.proofs.HeaderLaws.{part_agrees, edition_agrees, stated_agrees, rules_agree, says_agrees, method_agrees}
use Rattle.std.specs.Prelude.{Ok, Err}

-- behind bytes that hold the whole header and reach its number
module _ (kept more : List ℕ) (whole : 564 ≤ length kept) (ended : stated_end kept ≤ length kept) where
  long : length (kept ++ more) ≡ length kept + length more
  long = length-append kept more

  header_kept : part (kept ++ more) 0 564 ≡ part kept 0 564
  header_kept = part_kept kept more 0 564 whole

  stated_kept : stated_end (kept ++ more) ≡ stated_end kept
  stated_kept = stated_agrees (kept ++ more) kept header_kept

  reaches : end_fits (kept ++ more) ≡ true
  unfolding end_fits
  reaches = le-leb (stated_end (kept ++ more)) (length (kept ++ more)) (omega (arith, long, stated_kept))

  end_kept : file_end (kept ++ more) ≡ stated_end kept
  unfolding file_end
  end_kept = omega (arith, long, stated_kept)

  before_kept : part (kept ++ more) 0 (stated_end kept) ≡ part kept 0 (stated_end kept)
  before_kept = part_kept kept more 0 (stated_end kept) (omega arith)

hanging_alike : (kept one other : List ℕ) → Hanging kept one other → AlikeToEnd (kept ++ one) (kept ++ other)
hanging_alike kept one other h =
    let w = h.whole in
    let e = h.ended in
    record {
      header = header_kept kept one w e ∙ sym (header_kept kept other w e);
      bounds = h.bounds;
      reach = reaches kept one w e ∙ sym (reaches kept other w e);
      end = end_kept kept one w e ∙ sym (end_kept kept other w e);
      before =
          ap (part (kept ++ one) 0) (end_kept kept one w e) ∙ before_kept kept one w e
          ∙ sym (ap (part (kept ++ other) 0) (end_kept kept one w e) ∙ before_kept kept other w e);
    }

pub looks : {A : Type 0} (call : List ℕ → A) → ((one other : List ℕ) → AlikeToEnd one other → call one ≡ call other) → LooksToEnd call
looks call f = record { alike = f; hanging = λ kept one other h. f (kept ++ one) (kept ++ other) (hanging_alike kept one other h) }

module _ (one other : List ℕ) (alike : AlikeToEnd one other) where
  -- a part that ends at or before the file's end
  pub part_alike : (place size : ℕ) → place + size ≤ file_end one → part one place size ≡ part other place size
  part_alike place size h = part_agrees one other (file_end one) alike.before place size h

  pub header_alike : header_fits one ≡ header_fits other
  header_alike = rules_agree one other alike.header alike.bounds alike.reach

  pub edition_alike : edition_of one ≡ edition_of other
  edition_alike = edition_agrees one other alike.header

  pub method_alike : method_of one ≡ method_of other
  method_alike = method_agrees one other alike.header

  pub answer_alike : header_of one ≡ header_of other
  unfolding header_of
  answer_alike = ap₂ (λ (v : Verdict) (h : Header). after Err v (Ok h)) header_alike (says_agrees one other alike.header)

-- 1 at the number's place is refused exactly when all that comes before holds, and the number is above the image's length
module _ (image : List ℕ) where
  last_fault : Refusal
  last_fault = ImageLength at end_place image

  before : List Rule
  before = (mark_rules image ++ seal_rules image) ++ (rule (encoding_fits image) (Encoding at method_place image) ∷ [])

  other_place : (r : Refusal) → (r.place ≡ end_place image → ⊥) → r ≡ last_fault → ⊥
  unfolding last_fault
  other_place r n e = n (ap (λ (s : Refusal). s.place) e)

  others : Each (λ s. s ≡ last_fault → ⊥) before
  unfolding before mark_rules seal_rules
  others =
      let between = (fair_places image).between in
      let sentinel = (fair_places image).sentinel in (
        other_place _ (λ e. omega arith),
        (other_place _ (λ e. omega arith), (other_place _ (λ e. omega arith), (other_place _ (λ e. omega arith), (other_place _ (λ e. omega arith), (other_place _ (λ e. omega arith), (other_place _ (λ e. omega arith), (other_place _ (λ e. omega arith), tt))))))),
      )

  last : FirstFault (header_rules image) last_fault ↔ (AllHold before × (end_fits image ≡ false))
  unfolding before last_fault mark_rules seal_rules last_rules
  last = last_exactly before (rule (end_fits image) last_fault) others

  pub end_refused : FirstFault (header_rules image) (ImageLength at end_place image) ↔ Above image
  unfolding before last_fault end_fits
  end_refused = (
    (λ f.
        let parts = last.0 f in
        let held = hold_apart (mark_rules image ++ seal_rules image) _ parts.0 in
        record { fields = held.0; known = only held.1; short = leb-false _ _ parts.1 }),
    (λ h. last.1 (hold_both (mark_rules image ++ seal_rules image) _ h.fields (both h.known none), lt-leb _ _ h.short)),
  )
    where
      only : AllHold (rule (encoding_fits image) (Encoding at method_place image) ∷ []) → encoding_fits image ≡ true
      only (both h none) = h
