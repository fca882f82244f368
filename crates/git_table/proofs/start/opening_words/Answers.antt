use Rattle.std.proofs.Common.{◌≡◌, ◌+◌, [], ◌∷◌, ◌++◌, subst, rules, arith}
use Rattle.git_visits.specs.Opening.{Opened}
use Rattle.git_table.proofs.Openings.{opened_first, opened_more, opened_ends}
use Rattle.git_table.proofs.start.opening_words.Goals as goal

pub loop-r-init : goal.loop-r-init
loop-r-init c =
    let e : c.push.new.self.items ≡ c.in_ok-words.words.items ++ 1 ∷ [] = search rules in
    let o = c.in_ok-words.ensures in let r = c.requires in rw e (opened_first c.in_ok-words.words.items c.args.first.now c.args.records c.args.width c.args.hashes o.0 r.1 o.1)

pub loop-r-preserved : goal.loop-r-preserved
loop-r-preserved c =
    let e : c.push-in-loop-r.new.self.items ≡ c.loop-r.words.items ++ 0 ∷ [] = search rules in
    let r = c.requires in rw e (opened_more c.loop-r.words.items c.args.first.now c.args.records c.args.width c.args.hashes (c.loop-r._r + 1) r.1 (omega arith) c.loop-r.invariant)

pub returns : goal.returns
returns c =
    let e : c.push-2.new.self.items ≡ c.loop-r.words.items ++ 1 ∷ [] = search rules in
    let f : c.push-3.new.self.items ≡ c.push-2.new.self.items ++ 0 ∷ [] = search rules in
    let r = c.requires in let t = c.loop-r-test.false in let n = c.loop-r.auto in
    let all : c.loop-r._r + 1 ≡ c.args.records = omega arith in
    rw (f, e) (opened_ends c.loop-r.words.items c.args.first.now c.args.records c.args.width c.args.hashes r.1 (subst (Opened c.loop-r.words.items c.args.first.now c.args.records c.args.width c.args.hashes) all c.loop-r.invariant))
