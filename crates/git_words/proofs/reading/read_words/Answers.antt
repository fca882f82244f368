use Rattle.std.proofs.Common.{◌≡◌, ◌-◌, ◌∷◌, length, take, drop}
use Rattle.std.specs.Prelude.{codes}
use Rattle.git_words.specs.Words.{words_of}
use Rattle.git_words.proofs.Samples.{first_is}
use Rattle.git_words.proofs.OneCommand.{fan_found, faces_found, cones_found, locate_found, bunch_found}
use Rattle.git_words.proofs.reading.read_words.Goals as goal

pub returns-in-fan-clause-some : goal.returns-in-fan-clause-some
returns-in-fan-clause-some c =
    let e : words_of c.args.words.now ≡ codes "fan" ∷ words_of (take (length c.args.words.now - 1) (drop 1 c.args.words.now)) = first_is c.args.words.now _ (codes "fan") c.in-fan.len_at_least c.in-fan.is-fan in
    fan_found (words_of c.args.words.now) (words_of (take (length c.args.words.now - 1) (drop 1 c.args.words.now))) e c.read_fan.result c.read_fan.ensures.some

pub returns-in-faces-clause-some : goal.returns-in-faces-clause-some
returns-in-faces-clause-some c =
    let e : words_of c.args.words.now ≡ codes "faces" ∷ words_of (take (length c.args.words.now - 1) (drop 1 c.args.words.now)) = first_is c.args.words.now _ (codes "faces") c.in-faces.len_at_least c.in-faces.is-faces in
    faces_found (words_of c.args.words.now) (words_of (take (length c.args.words.now - 1) (drop 1 c.args.words.now))) e c.read_faces.result c.read_faces.ensures.some

pub returns-in-cones-clause-some : goal.returns-in-cones-clause-some
returns-in-cones-clause-some c =
    let e : words_of c.args.words.now ≡ codes "cones" ∷ words_of (take (length c.args.words.now - 1) (drop 1 c.args.words.now)) = first_is c.args.words.now _ (codes "cones") c.in-cones.len_at_least c.in-cones.is-cones in
    cones_found (words_of c.args.words.now) (words_of (take (length c.args.words.now - 1) (drop 1 c.args.words.now))) e c.read_cones.result c.read_cones.ensures.some

pub returns-in-locate-clause-some : goal.returns-in-locate-clause-some
returns-in-locate-clause-some c =
    let e : words_of c.args.words.now ≡ codes "locate" ∷ words_of (take (length c.args.words.now - 1) (drop 1 c.args.words.now)) = first_is c.args.words.now _ (codes "locate") c.in-locate.len_at_least c.in-locate.is-locate in
    locate_found (words_of c.args.words.now) (words_of (take (length c.args.words.now - 1) (drop 1 c.args.words.now))) e c.read_locate.result c.read_locate.ensures.some

pub returns-in-bunch-clause-some : goal.returns-in-bunch-clause-some
returns-in-bunch-clause-some c =
    let e : words_of c.args.words.now ≡ codes "bunch" ∷ words_of (take (length c.args.words.now - 1) (drop 1 c.args.words.now)) = first_is c.args.words.now _ (codes "bunch") c.in-bunch.len_at_least c.in-bunch.is-bunch in
    bunch_found (words_of c.args.words.now) (words_of (take (length c.args.words.now - 1) (drop 1 c.args.words.now))) e c.read_bunch.result c.read_bunch.ensures.some
