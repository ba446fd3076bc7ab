-- Which key rule a page breaks, and at which entry. Assumes nothing.
use Prim.Native.Nat.{ℕ, ◌≤◌}
use mathlib.Core.Path.{◌≡◌, sym, ap, ◌∙◌}
use mathlib.Core.Logic.{◌↔◌, ⊎_elim}
use mathlib.Core.List.{List}
use native.Mathlib.Omega.{arith}
use Rattle.refusal.specs.declared.Fault.TheVariants.{KeyOrder, KeyRange}
use Rattle.refusal.specs.declared.Refusal.{Refusal}
use Rattle.refusal.specs.Number.{number}
use Rattle.refusal.specs.Order.{Verdict, at_entry, in_order, AllHold, FirstFault, here, later}
use Rattle.refusal.proofs.OrderLaws.{accepted_exactly, refused_exactly, unrefused, then_refused, in_order_append, append_goes}
use Rattle.keys.specs.Range.{ordered}
use Rattle.keys.proofs.Faults.{unordered_exactly, outside_exactly, climbing_exactly}
use Rattle.edition.specs.declared.Layout.{Layout}
use Rattle.page.specs.declared.Link.{Link}
use Rattle.page.specs.Page.{page, bytes_rules, six_to_ten, keys_in, key_rules, page_rules, page_fits}
use Rattle.page.specs.KeyFaults.{BreaksOrder, BreaksRange, KeyFaultsTold}
use Rattle.page.proofs.KeyLaws.{told, keys_told, told_climbing}
use Rattle.std.specs.Prelude.{Result, Ok, Err, ⊤}
use Rattle.keys.specs.declared.Disorder.{Disorder}
use Rattle.keys.specs.declared.Disorder.TheVariants.{Outside, Unordered}

-- what the verdict of the keys says of what was found
same_entry : {a b : Refusal} → ◌≡◌ {A = Verdict} (Err a) (Err b) → (a.more ≡ b.more) × (number a.fault ≡ number b.fault)
same_entry e = (ap (λ (r : Refusal). r.more) (unrefused e), ap (λ (r : Refusal). number r.fault) (unrefused e))

told_unordered : (offset : ℕ) (o : Result ⊤ Disorder) (i : ℕ) → told offset o ≡ Err (at_entry KeyOrder offset i) → o ≡ Err (Unordered i)
unfolding told
told_unordered offset (Ok tt) i e = let clash : ◌≡◌ {A = ℕ} 0 1 = cc in absurd (omega arith)
told_unordered offset (Err (Unordered j)) i e = ap (λ n. Err (Unordered n)) (same_entry e).0
told_unordered offset (Err (Outside j)) i e = let clash : ◌≡◌ {A = ℕ} 21 11 = (same_entry e).1 in absurd (omega arith)

told_outside : (offset : ℕ) (o : Result ⊤ Disorder) (i : ℕ) → told offset o ≡ Err (at_entry KeyRange offset i) → o ≡ Err (Outside i)
unfolding told
told_outside offset (Ok tt) i e = let clash : ◌≡◌ {A = ℕ} 0 1 = cc in absurd (omega arith)
told_outside offset (Err (Unordered j)) i e = let clash : ◌≡◌ {A = ℕ} 11 21 = (same_entry e).1 in absurd (omega arith)
told_outside offset (Err (Outside j)) i e = ap (λ n. Err (Outside n)) (same_entry e).0

-- a refusal of the keys, by its number
told_eleven : (offset : ℕ) (o : Result ⊤ Disorder) (r : Refusal) → told offset o ≡ Err r → r.fault ≡ KeyOrder → r ≡ at_entry KeyOrder offset r.more
unfolding told
told_eleven offset (Ok tt) r e f = let clash : ◌≡◌ {A = ℕ} 0 1 = cc in absurd (omega arith)
told_eleven offset (Err (Unordered j)) r e f = sym (unrefused e) ∙ ap (at_entry KeyOrder offset) (same_entry e).0
told_eleven offset (Err (Outside j)) r e f = let clash : ◌≡◌ {A = ℕ} 21 11 = (same_entry e).1 ∙ ap number f in absurd (omega arith)

told_twenty_one : (offset : ℕ) (o : Result ⊤ Disorder) (r : Refusal) → told offset o ≡ Err r → r.fault ≡ KeyRange → r ≡ at_entry KeyRange offset r.more
unfolding told
told_twenty_one offset (Ok tt) r e f = let clash : ◌≡◌ {A = ℕ} 0 1 = cc in absurd (omega arith)
told_twenty_one offset (Err (Unordered j)) r e f = let clash : ◌≡◌ {A = ℕ} 11 21 = (same_entry e).1 ∙ ap number f in absurd (omega arith)
told_twenty_one offset (Err (Outside j)) r e f = sym (unrefused e) ∙ ap (at_entry KeyRange offset) (same_entry e).0

module _ (L : Layout) (image : List ℕ) (p : Link) where
  -- the first five rules have the numbers 6 to 10
  pub numbered : (r : Refusal) → FirstFault (six_to_ten L image p) r → number r.fault ≤ 10
  unfolding six_to_ten bytes_rules
  numbered r (here t) = omega arith
  numbered r (later s (here t)) = omega arith
  numbered r (later s (later u (here t))) = omega arith
  numbered r (later s (later u (later v (here t)))) = omega arith
  numbered r (later s (later u (later v (later w (here t))))) = omega arith
  numbered r (later s (later u (later v (later w (later _ f))))) = elim f [ ]

  found : Result ⊤ Disorder
  found = ordered p.range (keys_in L (page image p.offset))

  -- a page that passes 6 to 10 has the verdict of its keys
  keys_decide : AllHold (six_to_ten L image p) → page_fits L image p ≡ told p.offset found
  unfolding page_fits page_rules found
  keys_decide h = append_goes (six_to_ten L image p) (key_rules p (keys_in L (page image p.offset))) h ∙ keys_told p (keys_in L (page image p.offset))

  -- a refusal over 10 comes from the keys
  from_keys : (r : Refusal) → page_fits L image p ≡ Err r → 11 ≤ number r.fault → AllHold (six_to_ten L image p) × (told p.offset found ≡ Err r)
  unfolding page_fits page_rules found
  from_keys r e high =
      ⊎_elim
      (λ (early : in_order (six_to_ten L image p) ≡ Err r). let low = numbered r ((refused_exactly _ r).0 early) in absurd (omega (arith, high, low)))
      (λ (late : (in_order (six_to_ten L image p) ≡ Ok tt) × (in_order (key_rules p (keys_in L (page image p.offset))) ≡ Err r)).
      ((accepted_exactly _).0 late.0, sym (keys_told p (keys_in L (page image p.offset))) ∙ late.1))
      (then_refused _ _ r (sym (in_order_append (six_to_ten L image p) (key_rules p (keys_in L (page image p.offset)))) ∙ e))

  eleven : (i : ℕ) → (page_fits L image p ≡ Err (at_entry KeyOrder p.offset i)) ↔ BreaksOrder L image p i
  unfolding found told
  eleven i = (
    (λ e. let k = from_keys _ e (omega arith) in (k.0, (unordered_exactly p.range _ i).0 (told_unordered p.offset found i k.1))),
    (λ h. keys_decide h.0 ∙ ap (told p.offset) ((unordered_exactly p.range _ i).1 h.1)),
  )

  twenty_one : (i : ℕ) → (page_fits L image p ≡ Err (at_entry KeyRange p.offset i)) ↔ BreaksRange L image p i
  unfolding found told
  twenty_one i = (
    (λ e. let k = from_keys _ e (omega arith) in (k.0, (outside_exactly p.range _ i).0 (told_outside p.offset found i k.1))),
    (λ h. keys_decide h.0 ∙ ap (told p.offset) ((outside_exactly p.range _ i).1 h.1)),
  )

  neither : AllHold (six_to_ten L image p) → (page_fits L image p ≡ Ok tt) ↔ ((i : ℕ) → (BreaksOrder L image p i → ⊥) × (BreaksRange L image p i → ⊥))
  unfolding found told
  neither good = (
    (λ e i. let none = (climbing_exactly p.range (keys_in L (page image p.offset))).0 (told_climbing p.offset found (sym (keys_decide good) ∙ e)) i in
        ((λ h. none.0 h.1), (λ h. none.1 h.1))),
    (λ none. keys_decide good ∙ ap (told p.offset) ((climbing_exactly p.range (keys_in L (page image p.offset))).1 (λ i. ((λ h. (none i).0 (good, h)), (λ h. (none i).1 (good, h)))))),
  )

  pub key_faults : KeyFaultsTold L image p
  key_faults =
      record {
        eleven = eleven;
        twenty_one = twenty_one;
        eleven_form = λ r e f. told_eleven p.offset found r (from_keys r e (omega (arith, ap number f))).1 f;
        twenty_one_form = λ r e f. told_twenty_one p.offset found r (from_keys r e (omega (arith, ap number f))).1 f;
        never_first = λ e. let first = ((eleven 0).0 e).1.not_first in omega (arith, first);
        neither = neither;
      }
