-- A list of nodes in one call. Assumes nothing.
use Prim.Native.Nat.{ℕ, ◌*◌, ◌/◌, ◌≤◌, ◌<◌}
use mathlib.Core.Path.{◌≡◌, refl, sym, ap, ◌∙◌}
use mathlib.Core.Bool.{false}
use mathlib.Core.Logic.{◌↔◌}
use mathlib.Core.List.{List, []}
use native.Mathlib.Omega.{arith}
use native.Mathlib.Nat.{add-zero}
use lib.ListN.{length, get_or}
use Rattle.laws.proofs.Tests.{not_both}
use Rattle.le.specs.Bytes.{byte}
use Rattle.le.proofs.FieldLaws.{byte_part}
use Rattle.refusal.specs.declared.Refusal.{Refusal}
use Rattle.header.specs.Header.{nodes_of, header_fits, header_of}
use Rattle.tree.specs.Answers.{node_of}
use Rattle.tree.proofs.Ways.{start_refused, node_refused}
use Rattle.nodelist.specs.Places.{node_words, place_of, list_fits}
use Rattle.nodelist.proofs.Words.{words_injective}
use Rattle.nodelist.proofs.ListLaws.{too_many, too_short, taken_exactly, area_kept, place_is, past_stays, area_length}
use Rattle.pst.specs.Meaning.{answered, refuses, refusal_means, verdict_means, header_means, node_means}
use Rattle.pst.specs.Outcomes.{header_outcome, nodes_outcome, node_outcome, list_outcome, list_area}
use Rattle.pst.specs.Demands.{place_in, ThirdRequest}
use Rattle.pst.proofs.Injective.{verdict_injective, header_injective, node_injective}
use Rattle.pst.proofs.Refusals.{header_verdict_lem, header_verdict}
use Rattle.pst.proofs.ThirdDemand.{third_demand}
use Rattle.std.specs.Prelude.{Result, Ok, Err}
use Rattle.tree.specs.declared.Found.{Found}
use Rattle.tree.specs.declared.Node.{Node}
use Rattle.tree.specs.declared.Found.TheVariants.{Absent, Entry}

module _ (nodes area : List ℕ) where
  fits : list_outcome nodes area ≡ answered [] → list_fits (length nodes) (length area) ≡ Ok tt
  unfolding list_outcome verdict_means
  fits e = verdict_injective _ (Ok tt) e

  taken : (list_outcome nodes area ≡ answered []) ↔ ((length nodes ≤ 4096) × (length nodes ≤ length area / 9))
  unfolding list_outcome verdict_means
  taken =
      let exactly = taken_exactly (length nodes) (length area) in
      ((λ e. exactly.0 (fits e)), (λ h. ap verdict_means (exactly.1 h)))

module _ (image nodes area : List ℕ) (ok : list_outcome nodes area ≡ answered []) where
  here : (i : ℕ) → i < length nodes → place_in (list_area image nodes area) i ≡ place_of (nodes_of image) image (get_or nodes i 0)
  unfolding list_area
  here i h = place_is (nodes_of image) image nodes area (fits nodes area ok) i h

  told : (i : ℕ) (given : Result (Found Node) Refusal) → i < length nodes → (place_in (list_area image nodes area) i ≡ node_words given) ↔ (node_means given ≡ node_outcome image (get_or nodes i 0))
  unfolding node_outcome
  told i given h = (
    (λ e. ap node_means (sym (words_injective _ given (sym (here i h) ∙ e)))),
    (λ e. here i h ∙ ap node_words (sym (node_injective given _ e))),
  )

-- a refused header refuses every lookup
headless : (image : List ℕ) (key : ℕ) (r : Refusal) → header_outcome image ≡ refusal_means r → node_of (nodes_of image) image key ≡ Err r
unfolding header_outcome header_means header_verdict_lem header_of
headless image key r e =
    let is : header_of image ≡ Err r = header_injective _ (Err r) e in
    let refused : header_fits image ≡ Err r = header_verdict (header_fits image) _ ∙ ap header_verdict_lem is in
    sym (node_refused (nodes_of image) image key r (sym (start_refused (nodes_of image) image (header_fits image) r refl refused) ∙ refused))

-- the first word of an answer that is no refusal
first_word : (x : Result (Found Node) Refusal) → refuses (node_means x) ≡ false → get_or (node_words x) 0 0 ≡ 0
unfolding refuses node_means node_words refusal_means
first_word (Ok (Entry n pages)) e = refl
first_word (Ok (Absent pages)) e = refl
first_word (Err r) e = not_both _ refl e

never_refused : (image nodes area : List ℕ) (i : ℕ) → nodes_outcome image ≡ answered [] → list_outcome nodes area ≡ answered [] → i < length nodes → get_or (list_area image nodes area) (9 * i) 0 ≡ 0
unfolding byte node_outcome
never_refused image nodes area i accepted ok h =
    ap (λ (k : ℕ). get_or (list_area image nodes area) k 0) (sym (add-zero (9 * i)))
    ∙ sym (byte_part (list_area image nodes area) (9 * i) 9 0 (omega arith))
    ∙ ap (λ (s : List ℕ). get_or s 0 0) (here image nodes area ok i h)
    ∙ first_word _ ((third_demand.nodes image accepted).never_refused (get_or nodes i 0))

pub third_request : ThirdRequest
unfolding list_outcome list_area verdict_means refusal_means
third_request =
    record {
      taken = taken;
      too_long = λ nodes area h. ap verdict_means (sym (too_many (length nodes) (length area) h));
      too_short = λ nodes area few h. ap verdict_means (sym (too_short (length nodes) (length area) few h));
      places = λ image nodes area i given ok h. told image nodes area ok i given h;
      past_the_list = λ image nodes area. past_stays (nodes_of image) image nodes area;
      same_length = λ image nodes area. area_length (nodes_of image) image nodes area;
      repeated = λ image nodes area i j ok h g same. here image nodes area ok i h ∙ ap (place_of (nodes_of image) image) same ∙ sym (here image nodes area ok j g);
      empty = λ image area. let ok = (taken [] area).1 (omega arith, omega arith) in (ok, sym (area_kept (nodes_of image) image [] area (omega arith) (sym (fits [] area ok))));
      header_refused = λ image nodes area i r e ok h. here image nodes area ok i h ∙ ap node_words (headless image (get_or nodes i 0) r e);
      never_refused = never_refused;
    }
