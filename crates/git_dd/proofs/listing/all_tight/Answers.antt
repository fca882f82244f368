use Rattle.std.proofs.Common.{Vec, Global, ℕ, List, [], ◌∷◌, map, sym, subst, arith, take, ◌+◌}
use Rattle.std.proofs.lemmas.List.{map-append}
use Rattle.git_defs.specs.Vectors.{Vector}
use Rattle.git_dd.proofs.Tightness.{all_tight_more}
use Rattle.git_dd.specs.Tights.{AreTight, AreAllTight}
use Rattle.git_dd.proofs.listing.all_tight.Goals as goal

pub loop-x-preserved : goal.loop-x-preserved
loop-x-preserved c =
    let P = c.args.prepared.now in let L = c.args.list.now in let i = c.loop-x.x-index in let x = c.x-item.result in
    let old = c.loop-x.out.items in let places = c.in_ok-places.places in
    subst (λ (u : List (Vec ℕ Global)). AreAllTight P (take (i + 1) L) (map (λ (t : Vec ℕ Global). t.items) u)) (sym c.in_ok-add.ensures)
    (subst (AreAllTight P (take (i + 1) L)) (sym (map-append (λ (t : Vec ℕ Global). t.items) old (places ∷ [])))
    (all_tight_more P L (map (λ (t : Vec ℕ Global). t.items) old) places.items i x (omega arith) c.loop-x.invariant (subst (λ (u : Vector). AreTight P u places.items) c.x-item.is c.in_ok-places.ensures)))
