use Rattle.std.proofs.Common.{◌≡◌, List, length, sym, ap, subst, arith}
use Rattle.std.specs.Prelude.{All}
use Rattle.git_defs.specs.Vectors.{Vector}
use Rattle.git_stages.proofs.Prepares.{prepared_short}
use Rattle.git_stages.proofs.Shorts.{short_length}
use Rattle.git_stages.specs.Ranks.{IsRank}
use Rattle.git_stages.specs.Short.{IsShort}
use Rattle.git_dd.proofs.Ends.{rank_at_end, whole_fault}
use Rattle.git_dd.proofs.Finals.{rank_from}
use Rattle.git_elimination.specs.Progress.{Progress}
use Rattle.git_dd.proofs.listing.rays.Goals as goal

pub split_all-requires-clause-short : goal.split_all-requires-clause-short
split_all-requires-clause-short c = subst (λ (u : List Vector). All (IsShort c.args.k) u) (sym c.deref.ensures.value) (prepared_short c.args.k c.args.inequalities.now c.in-Ok.list.items c.in-Ok.ensures.prepared c.requires.short)

pub returns-then-len-k-clause-fault : goal.returns-then-len-k-clause-fault
returns-then-len-k-clause-fault c =
    let s = c.in-Ok-split_all.split in let k = c.args.k in let L = c.in-Ok.list.items in
    let p = subst (λ (u : List Vector). Progress k u (length u) s.base.items s.free.items s.rays.items s.rest.items) c.deref.ensures.value c.in-Ok-split_all.ensures.done in
    let r = rank_at_end k c.args.inequalities.now L s.base.items s.free.items s.rays.items s.rest.items c.in-Ok.ensures.prepared c.requires.short p in
    let e : length s.base.items ≡ c.len-then-len-k.result = omega (arith, c.len-then-len-k.ensures, s.base.ok.0) in
    (subst (IsRank k c.args.inequalities.now) e r, omega (arith, e, c.if-len-k.true, c.len.ensures, s.base.ok.0))

pub with_tight-requires-clause-prepared : goal.with_tight-requires-clause-prepared
with_tight-requires-clause-prepared c = subst (λ (u : List Vector). All (IsShort c.args.k) u) (sym c.deref-in-Ok-from_split.ensures.value) (prepared_short c.args.k c.args.inequalities.now c.in-Ok.list.items c.in-Ok.ensures.prepared c.requires.short)

pub from_split-requires-clause-few : goal.from_split-requires-clause-few
from_split-requires-clause-few c = let e = ap length c.deref-in-Ok-split_all.ensures.value in let f = c.in-Ok.ensures.size in let g = c.requires.few in omega (arith, e, f, g)

pub returns-clause-fault : goal.returns-clause-fault
returns-clause-fault c =
    let s = c.in-Ok-split_all.split in let k = c.args.k in let L = c.in-Ok.list.items in
    let p = subst (λ (u : List Vector). Progress k u (length u) s.base.items s.free.items s.rays.items s.rest.items) c.deref.ensures.value c.in-Ok-split_all.ensures.done in
    let r = rank_at_end k c.args.inequalities.now L s.base.items s.free.items s.rays.items s.rest.items c.in-Ok.ensures.prepared c.requires.short p in
    let rank = rank_from k c.args.inequalities.now (length s.base.items) (short_length k c.args.inequalities.now c.requires.short) r (omega (arith, c.if-len-k.false, c.len.ensures, s.base.ok.0)) in
    whole_fault k c.args.inequalities.now c.in-Err-from_split.fault c.converted.result rank c.converted.ensures c.in-Err-from_split.ensures.fault
