-- The key rules of a page, by what the test of its keys finds. Assumes nothing.
use Prim.Native.Nat.{ℕ, ◌+◌}
use mathlib.Core.Path.{◌≡◌, refl, sym, ◌∙◌}
use mathlib.Core.Bool.{Bool, true, false, cond}
use mathlib.Core.List.{List, [], ◌∷◌}
use lib.Dec.{ltb}
use Rattle.refusal.specs.declared.Fault.TheVariants.{KeyOrder, KeyRange}
use Rattle.refusal.specs.Order.{Verdict, at_entry, demand, after, Rule, rule, in_order, AllHold}
use Rattle.refusal.proofs.OrderLaws.{accepted_exactly}
use Rattle.keys.specs.Range.{in_range, ordered_after, ordered}
use Rattle.page.specs.declared.Link.{Link}
use Rattle.page.specs.Page.{key_rules_after, key_rules}
use Rattle.std.specs.Prelude.{Result, Ok, Err, ⊤}
use Rattle.keys.specs.declared.Disorder.{Disorder}
use Rattle.keys.specs.declared.Disorder.TheVariants.{Outside, Unordered}

-- the verdict of what is found of keys
unfoldable pub told : ℕ → Result ⊤ Disorder → Verdict
told offset (Ok tt) = Ok tt
told offset (Err (Unordered i)) = Err (at_entry KeyOrder offset i)
told offset (Err (Outside i)) = Err (at_entry KeyRange offset i)

none_told : (offset : ℕ) → in_order [] ≡ told offset (Ok tt)
unfolding in_order told
none_told offset = refl

-- the tests of one entry before those of the others
range_told : (b : Bool) (offset i : ℕ) (rest : List Rule) (o : Result ⊤ Disorder) → in_order rest ≡ told offset o
    → in_order (rule b (at_entry KeyRange offset i) ∷ rest) ≡ told offset (cond b o (Err (Outside i)))
unfolding in_order demand after told
range_told true offset i rest o e = e
range_told false offset i rest o e = refl

order_told : (b : Bool) (offset i : ℕ) (rest : List Rule) (o : Result ⊤ Disorder) → in_order rest ≡ told offset o
    → in_order (rule b (at_entry KeyOrder offset i) ∷ rest) ≡ told offset (cond b o (Err (Unordered i)))
unfolding in_order demand after told
order_told true offset i rest o e = e
order_told false offset i rest o e = refl

module _ (p : Link) where
  told_after : (i last : ℕ) (keys : List ℕ) → in_order (key_rules_after p i last keys) ≡ told p.offset (ordered_after p.range i last keys)
  unfolding key_rules_after ordered_after
  told_after i last [] = none_told p.offset
  told_after i last (key ∷ keys) =
      order_told (ltb last key) p.offset i _ _ (range_told (in_range p.range key) p.offset i _ _ (told_after (i + 1) key keys))

  pub keys_told : (keys : List ℕ) → in_order (key_rules p keys) ≡ told p.offset (ordered p.range keys)
  unfolding key_rules ordered
  keys_told [] = none_told p.offset
  keys_told (key ∷ keys) = range_told (in_range p.range key) p.offset 0 _ _ (told_after 1 key keys)

pub told_climbing : (offset : ℕ) (o : Result ⊤ Disorder) → told offset o ≡ Ok tt → o ≡ Ok tt
unfolding told
told_climbing offset (Ok tt) e = refl
told_climbing offset (Err (Unordered i)) e = cc
told_climbing offset (Err (Outside i)) e = cc

-- the key rules all hold exactly when the keys climb
pub climbing_of : (p : Link) (keys : List ℕ) → AllHold (key_rules p keys) → ordered p.range keys ≡ Ok tt
climbing_of p keys h = told_climbing p.offset _ (sym (keys_told p keys) ∙ (accepted_exactly (key_rules p keys)).1 h)

pub of_climbing : (p : Link) (keys : List ℕ) → ordered p.range keys ≡ Ok tt → AllHold (key_rules p keys)
unfolding told
of_climbing p keys e = (accepted_exactly (key_rules p keys)).0 (keys_told p keys ∙ rw e)
