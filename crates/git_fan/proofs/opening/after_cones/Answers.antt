use Rattle.std.proofs.Common.{◌≡◌, ◌∙◌, ◌+◌, ◌*◌, ◌<◌, ◌≤◌, ◌^◌, ℕ, sym, ap, subst, refl, arith}
use Rattle.git_base.specs.declared.status.Status.TheVariants as statuses
use Rattle.git_orbit.specs.Orbits.{Fan}
use Rattle.git_orbit.specs.Signatures.{width_of}
use Rattle.git_grading.specs.Gradings.{Degrees}
use Rattle.git_replies.specs.Cases.{◌otherwise◌}
use Rattle.git_answers.specs.Fan.{IsFanOf, not_good, table_full, table_wide, options}
use Rattle.git_replies.specs.Lines.{table_wide_text}
use Rattle.git_answers.proofs.OneFan.{one_fan}
use Rattle.git_fan.proofs.NotGood.{few_product}
use Rattle.git_fan.proofs.Opens.{decides, left_of}
use Rattle.git_fan.proofs.opening.after_cones.Goals as goal

pub overflow_mul-table : goal.overflow_mul-table
overflow_mul-table c = let p = few_product c.args.table c.width-width.result c.requires.table c.width-width.ensures.few in omega (arith, p)

pub returns-then-table-width : goal.returns-then-table-width
returns-then-table-width c v s of verdicts degrees =
    let n = options c.args.table s in
    let r = c.in_ok-reply.reply in
    decides v (table_wide v n) (table_full v n otherwise not_good v) statuses.TableWide r.status r.text.items (table_wide_text c.args.table (width_of c.args.cones))
    (c.args.cones, of, subst (λ (w : ℕ). 2 ^ 24 < (c.args.table + 64) * w) c.width-width.ensures.is c.if-table-width.true, refl)
    c.in_ok-reply.ensures.status (subst (λ (w : ℕ). r.text.items ≡ table_wide_text c.args.table w) c.width-width.ensures.is c.in_ok-reply.ensures.text)

pub returns : goal.returns
returns c v s of verdicts degrees =
    let n = options c.args.table s in
    let narrow : (c.args.table + 64) * c.width-width.result ≤ 2 ^ 24 = c.if-table-width.false in
    record {
      graph = record { fan = subst (IsFanOf v) (sym c.new-graph.ensures.fan) of; columns = c.new-graph.ensures.columns ∙ sym (ap (λ (d : Degrees). d.columns) degrees) };
      verdicts = verdicts;
      small = subst (λ (f : Fan). width_of f ≤ 1024) (sym c.new-graph.ensures.fan) (subst (λ (w : ℕ). w ≤ 1024) c.width-width.ensures.is c.width-width.ensures.few);
      room = subst (λ (f : Fan). (c.args.table + 64) * width_of f ≤ 2 ^ 24) (sym c.new-graph.ensures.fan) (subst (λ (w : ℕ). (c.args.table + 64) * w ≤ 2 ^ 24) c.width-width.ensures.is narrow);
      rest = left_of (table_wide v n) (table_full v n otherwise not_good v) (λ o h.
          let same : width_of h.0 ≡ c.width-width.result = ap width_of (one_fan v h.0 c.args.cones h.1 of) ∙ sym c.width-width.ensures.is in
          let wide : 2 ^ 24 < (c.args.table + 64) * c.width-width.result = subst (λ (w : ℕ). 2 ^ 24 < (c.args.table + 64) * w) same h.2 in
          omega (arith, wide, narrow));
    }
