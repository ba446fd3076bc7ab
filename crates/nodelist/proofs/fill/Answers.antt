use Prim.Native.Nat.{ℕ, ◌+◌, ◌-◌, ◌*◌, ◌≤◌}
use mathlib.Core.Path.{◌≡◌, refl, sym, ap, ◌∙◌}
use mathlib.Core.List.{List}
use native.Mathlib.Omega.{arith}
use lib.ListN.{length, get_or, take}
use lib.Seq.{length-take-le}
use Rattle.laws.specs.Front.{fronted}
use Rattle.keys.specs.Search.{joined}
use Rattle.keys.proofs.Pieces.{pieces_length, pieces_on}
use Rattle.tree.proofs.Ways.{leads_nowhere}
use Rattle.edition.specs.declared.Layout.{Layout}
use Rattle.nodelist.specs.Places.{node_words, place_of, places_of}
use Rattle.nodelist.proofs.Words.{place_length, place_written}
use Rattle.tree.specs.Answers.{node_of, found_as}
use Rattle.nodelist.proofs.fill.Goals as goal

-- as many words as the places so far take
so_far : (L : Layout) (image nodes : List ℕ) (i : ℕ) → i ≤ length nodes → 9 * i ≡ length (places_of L image (take i nodes))
so_far L image nodes i h = sym (pieces_length (place_of L image) 9 (place_length L image) (take i nodes) ∙ ap (λ (k : ℕ). 9 * k) (length-take-le i nodes h))

pub loop-i-init : goal.loop-i-init
unfolding joined
loop-i-init c =
    let a = c.args in
    (leads_nowhere a.l a.image.now _ _ _ _, refl)

pub loop-i-preserved : goal.loop-i-preserved
unfolding node_of found_as
loop-i-preserved c =
    let a = c.args in
    let l = c.loop-i in
    let nodes = a.nodes.now in
    let words : c.copy_from_slice.new.self ≡ place_of a.l a.image.now (get_or nodes l.i 0) = c.copy_from_slice.ensures.after ∙ c.words_of-words.ensures ∙ ap node_words c.at.ensures in (
      c.way_to-way.ensures.1,
      place_written a.places.now (places_of a.l a.image.now (take l.i nodes)) _ _ l.places (9 * l.i) (9 * l.i + 9 - 9 * l.i) l.invariant.1 (so_far a.l a.image.now nodes l.i (omega arith)) (let n = place_length a.l a.image.now (get_or nodes l.i 0) in omega arith) words
          ∙ ap (λ (x : List ℕ). fronted x a.places.now) (sym (pieces_on (place_of a.l a.image.now) 9 (place_length a.l a.image.now) nodes l.i (omega arith))),
    )
