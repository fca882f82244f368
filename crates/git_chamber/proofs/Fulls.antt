-- Legal signatures have full dimension, and so have the cones that hold vectors of full rank.
use Rattle.std.proofs.Common.{List, ℕ}
use Rattle.std.specs.Prelude.{All}
use Rattle.git_defs.specs.Vectors.{HasRank, Vector}
use Rattle.git_lemmas.proofs.Members.{all_member, member_all}
use Rattle.git_geometry.proofs.Contained.{inside_at}
use Rattle.git_geometry.proofs.Inside.{inside_rank}
use Rattle.git_geometry.proofs.Minkowski.{minkowski}
use Rattle.git_machine.specs.Signatures.{Has, Signature}
use Rattle.git_orbit.specs.Orbits.{Fan, IsFan}
use Rattle.git_orbit.specs.Signatures.{InChamber, IsHolding, IsLegal, cone_in}
use Rattle.git_chamber.specs.Chambers.{IsFullSet}
use Rattle.git_chamber.specs.Nexts.{legal_numbers}
use Rattle.git_chamber.proofs.Facets.{germ_point, walls_cut}
use Rattle.git_chamber.proofs.Gatherings.{walls_exist}

pub legal_is_full : (fan : Fan) (sig : Signature) → IsFan fan.k fan.list → IsLegal fan sig → IsFullSet fan sig
legal_is_full fan sig is legal =
    let numbers = legal_numbers fan sig legal in
    let w = walls_exist fan sig is numbers in
    let m = minkowski fan.k w.0 in
    let same = walls_cut fan sig is numbers w.0 w.1 in
    record {
      numbers = numbers;
      words = legal.is.words;
      vectors = m.list;
      inside = member_all (InChamber fan sig) m.list (λ v o. (same v).0 (inside_at m.generates v o));
      rank = inside_rank fan.k w.0 m.list m.generates (germ_point fan sig is legal w.0 w.1);
    }

pub rays_make_full : (fan : Fan) (vs : List Vector) (sig : Signature) (member : ℕ) → HasRank fan.k vs → IsHolding fan vs sig → Has sig member → IsFullSet fan sig
rays_make_full fan vs sig member rank holds has = record {
  numbers = record { width = holds.width; in_range = λ i h. ((holds.each i).0 h).0; member = member; has_member = has };
  words = holds.words;
  vectors = vs;
  inside = member_all (InChamber fan sig) vs (λ v m i h. all_member (cone_in fan i) v vs ((holds.each i).0 h).1 m);
  rank = rank;
}
