use Rattle.std.proofs.Common.{rules, Err, ap, ◌∙◌, arith}
use Rattle.std.proofs.lemmas.Result.{IfOk-weaker}
use Rattle.git_algebra.specs.Operations.{total_degree}
use Rattle.git_ideals.specs.Division.{member, IsSPolynomial}
use Rattle.git_facecert.specs.Certificates.{IsMember}
use Rattle.git_facecert.proofs.Firsts.{found_member, member_has}
use Rattle.git_facecert.proofs.Pairs.{not_above, pair_by}
use Rattle.git_facecert.proofs.free.pair_divides.Goals as goal

pub unreachable-requires : goal.unreachable-requires
unreachable-requires c =
    let first = found_member c.args.members.now c.args.i c.index-members-i.result c.index-members-i.is c.requires.first in
    let second = found_member c.args.members.now c.args.j c.index-members-j.result c.index-members-j.is c.requires.second in
    let f : IsMember c.args.mask (member c.args.members.now c.args.i) = member_has (IsMember c.args.mask) c.args.members.now c.args.i c.requires.members c.requires.first in
    let g : IsMember c.args.mask (member c.args.members.now c.args.j) = member_has (IsMember c.args.mask) c.args.members.now c.args.j c.requires.members c.requires.second in
    not_above c.index-members-i.result c.index-members-j.result (omega (arith, ap total_degree first, f.small)) (omega (arith, ap total_degree second, g.small)) (c.s_poly.ensures.degree.0 (c.in-Err-Degree.is ∙ ap Err c.in-Err-Degree.field-0-is))

pub returns-in-Ok : goal.returns-in-Ok
returns-in-Ok c =
    let first = found_member c.args.members.now c.args.i c.index-members-i.result c.index-members-i.is c.requires.first in
    let second = found_member c.args.members.now c.args.j c.index-members-j.result c.index-members-j.is c.requires.second in
    let is : IsSPolynomial c.index-members-i.result c.index-members-j.result c.in-Ok.s = search rules in
    IfOk-weaker c.divides_to_zero.result _ _ (λ b h. pair_by c.args.members.now c.args.i c.args.j c.index-members-i.result c.index-members-j.result c.in-Ok.s b first second is h) c.divides_to_zero.ensures
