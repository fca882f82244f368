use Rattle.git_make.proofs.Relations.{product_fits}
use Rattle.git_make.proofs.planes.product.Goals as goal

pub unwrap-requires : goal.unwrap-requires
unwrap-requires c =
    product_fits c.args.i c.args.j c.requires.first c.requires.second c.power.result c.power-2.result c.times.result c.unwrap-first.result c.unwrap-second.result
    c.unwrap-first.ensures c.power.ensures.some c.unwrap-second.ensures c.power-2.ensures.some c.times.ensures.none.0
