-- What the coded bytes are by each method, and what a method's test answers. Assumes nothing.
use Rattle.std.proofs.Common.{◌≡◌, ℕ, suc, ◌+◌, ◌%◌, ◌<◌, ◌≤◌, Bool, true, false, cond, eqb, List, [], ◌∷◌, map, length, refl, ap, arith, eq-eqb, ne_eqb, le-leb}
use lib.ListN.{length-map}
use borrow.Author.Tests.{lt-leb}
use Rattle.std.specs.Prelude.{Ok, Err}
use Rattle.refusal.specs.declared.Fault.TheVariants.{Encoding}
use Rattle.refusal.specs.Order.{◌at◌}
use Rattle.refusal.proofs.OrderLaws.{passes, breaks}
use Rattle.coding.specs.Coding.{cyclic, word, coded, method_fits}

module _ (f : ℕ → ℕ) (method block : ℕ) (s : List ℕ) where
  pub coded_permute : method ≡ 1 → coded f method block s ≡ map f s
  unfolding coded
  coded_permute e = simp (eq-eqb method 1 e)

  pub coded_cyclic : method ≡ 2 → coded f method block s ≡ cyclic (word block) s
  unfolding coded
  coded_cyclic e = simp (ne_eqb method 1 (λ (d : method ≡ 1). omega arith), eq-eqb method 2 e)

  pub coded_none : (method ≡ 1 → ⊥) → (method ≡ 2 → ⊥) → coded f method block s ≡ s
  unfolding coded
  coded_none h k = simp (ne_eqb method 1 h, ne_eqb method 2 k)

pub method_fits_lem : (method : ℕ) → method ≤ 2 → method_fits method ≡ Ok tt
unfolding method_fits
method_fits_lem method h = passes _ _ (le-leb method 2 h)

pub method_refused : (method : ℕ) → 2 < method → method_fits method ≡ Err (Encoding at 0)
unfolding method_fits
method_refused method h = breaks _ _ (lt-leb method 2 h)

-- encoding and decoding keep the length
cyclic_length : (w : ℕ) (s : List ℕ) → length (cyclic w s) ≡ length s
unfolding cyclic
cyclic_length w [] = refl
cyclic_length w (b ∷ s) = ap suc (cyclic_length ((w + 1) % 65536) s)

pub coded_length : (f : ℕ → ℕ) (method block : ℕ) (s : List ℕ) → length (coded f method block s) ≡ length s
unfolding coded
coded_length f method block s = by_method (eqb method 1) (eqb method 2)
  where
    by_method : (a b : Bool) → length (cond a (map f s) (cond b (cyclic (word block) s) s)) ≡ length s
    by_method true b = length-map s f
    by_method false true = cyclic_length (word block) s
    by_method false false = refl
