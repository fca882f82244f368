use Rattle.std.proofs.Common.{ℕ, ◌≡◌, ◌∷◌, ◌++◌, [], ◌+◌, ◌-◌, ◌%◌, get_or, take, drop, refl, sym, ap, subst, ◌∙◌, arith, List, Vec, Global, Option}
use Rattle.std.specs.Prelude.{IfSome}
use Rattle.std.proofs.Math.Nat.{pos_of_ne-zero}
use Rattle.std.proofs.lemmas.Bool.{eqb-true, eqb-false}
use Rattle.std.proofs.lemmas.List.{take_rest}
use Rattle.git_algebra.specs.Exponents.{Exponents, times}
use Rattle.git_algebra.specs.Order.{rank}
use Rattle.git_algebra.specs.Sums.{Sum, shift}
use Rattle.git_algebra.specs.Polynomials.{RanksBelow, entry}
use Rattle.git_algebra.proofs.Monomials.{degree-times}
use Rattle.git_algebra.proofs.Congruence.{alike_refl, alike_trans, alike-append}
use Rattle.git_poly.specs.declared.term.Term.{Term}
use Rattle.git_poly.specs.Terms.{sum_of, IsForm}
use Rattle.git_poly.proofs.TermLists.{sum_of-append, next_term, none_left, degree_within}
use Rattle.git_lemmas.proofs.Options.{some_unless_none}
use Rattle.git_poly.proofs.Shifting.{shift_reduced, shifted_form}
use Rattle.git_poly.proofs.Merging.{Merging, merging_none, merging_piece, merging_second, merging_sum, entry_alone, second_positive, back_proper, moved, merged_left}
use Rattle.git_poly.proofs.Pieces.{piece_whole, piece_above, rest_below, read_same}
use Rattle.git_poly.proofs.terms.merged_with_multiple.Goals as goal
use Rattle.git_poly.proofs.terms.merged_with_multiple.Goals.{then-i-a+then-eq+in_ok-push_term, else-i-a+in_ok-push_term-2, else-i-a-via-then-i-a+else-eq, else-i-a-via-else-i-a}

pub loop-t-init : goal.loop-t-init
loop-t-init c =
    let second = shifted_form c.args.m.now c.args.c (sum_of c.args.b.now) (pos_of_ne-zero c.requires.some) c.requires.below c.requires.right in record {
      within = omega arith;
      so_far = subst (λ (s : Sum). Merging (sum_of c.args.a.now) (shift_reduced c.args.m.now c.args.c (sum_of c.args.b.now)) s (sum_of c.args.a.now) (shift_reduced c.args.m.now c.args.c (sum_of c.args.b.now))) (ap sum_of (sym c.in_ok-out.ensures.items)) (merging_none _ _ c.requires.left second.proper);
    }

pub unwrap-mono-requires : goal.unwrap-mono-requires
unwrap-mono-requires c =
    let x = c.t-item.result in
    some_unless_none c.times.result (λ none. omega (arith, c.times.ensures.none.0 none, degree-times c.args.m.now x.mono, degree_within c.args.b.now c.loop-t.t-index x c.t-item.is (omega arith), c.requires.degrees))

pub loop-t-preserved : goal.loop-t-preserved
loop-t-preserved c =
    let x = c.t-item.result in
    let a = c.args.a.now in
    let p = sum_of c.args.a.now in
    let q = shift_reduced c.args.m.now c.args.c (sum_of c.args.b.now) in
    let right = shift_reduced c.args.m.now c.args.c (sum_of (drop (c.loop-t.t-index + 1) c.args.b.now)) in
    let y : Exponents × ℕ = (c.unwrap-mono.result, c.mul-number.result) in
    let next = c.first_not_above-next.result in
    let made : c.unwrap-mono.result ≡ times c.args.m.now x.mono = subst (λ (o : Option Exponents). IfSome o (λ m. m ≡ times c.args.m.now x.mono)) c.unwrap-mono.ensures c.times.ensures.some in
    let here : shift_reduced c.args.m.now c.args.c (sum_of (drop c.loop-t.t-index c.args.b.now)) ≡ y ∷ right =
    ap (shift_reduced c.args.m.now c.args.c) (next_term c.args.b.now c.loop-t.t-index x c.t-item.is (omega arith)) ∙ (λ i. (sym made i, sym c.mul-number.ensures i) ∷ right) in
    let piece = take (next - c.loop-t.i) (drop c.loop-t.i c.args.a.now) in
    let before : Merging p q (sum_of c.loop-t.out.items) (sum_of piece ++ sum_of (drop next c.args.a.now)) (y ∷ right) =
    subst (λ (s : Sum). Merging p q (sum_of c.loop-t.out.items) s (y ∷ right)) (piece_whole c.args.a.now c.loop-t.i next c.first_not_above-next.ensures.later)
    (subst (λ (s : Sum). Merging p q (sum_of c.loop-t.out.items) (sum_of (drop c.loop-t.i c.args.a.now)) s) here c.loop-t.invariant.so_far) in
    let copied : Merging p q (sum_of c.extend_from_slice.new.self.items) (sum_of (drop next c.args.a.now)) (y ∷ right) =
    subst (λ (s : Sum). Merging p q s (sum_of (drop next c.args.a.now)) (y ∷ right)) (sym (ap sum_of c.in_ok-extend_from_slice.ensures.items ∙ sum_of-append c.loop-t.out.items piece))
    (merging_piece p q (sum_of c.loop-t.out.items) (sum_of piece) y (sum_of (drop next c.args.a.now)) right before (piece_above c.args.a.now c.loop-t.i next c.unwrap-mono.result c.first_not_above-next.ensures)) in
    elim c.if-i-a.branch [
      | then-i-a+then-eq+in_ok-push_term w ↦
          let z = w.index-a-i.result in
          let left = sum_of (drop (next + 1) c.args.a.now) in
          let there : sum_of (drop next c.args.a.now) ≡ (z.mono, z.number) ∷ left = next_term c.args.a.now next z w.index-a-i.is w.if-i-a.true in
          let equal : rank (get_or c.args.a.now next z).mono ≡ rank y.0 = eqb-true (rank (get_or c.args.a.now next z).mono) (rank y.0) (sym w.eq.ensures ∙ w.if-eq.true) in
          let same : rank z.mono ≡ rank y.0 = ap (λ (t : Term). rank t.mono) w.index-a-i.is ∙ equal in
          let out : sum_of c.if-i-a.out.items ≡ sum_of c.extend_from_slice.new.self.items ++ entry y.0 w.add.result [] = ap (λ (v : Vec Term Global). sum_of v.items) w.out-is ∙ w.in_ok-push_term.ensures in
          let i_is : c.if-i-a.i ≡ next + 1 = w.i-is in
          record {
            within = omega (arith, i_is, w.if-i-a.true);
            so_far = moved (sym out) (ap (λ k. sum_of (drop k c.args.a.now)) (sym i_is)) refl
                (merging_sum _ _ _ (z.mono, z.number) y w.add.result left right (moved refl there refl copied) same (w.add.ensures ∙ ap (λ (t : Term). (t.number + c.mul-number.result) % 32003) (sym w.index-a-i-then-eq.is ∙ read_same c.args.a.now next w.index-a-i-then-eq.result z w.index-a-i-then-eq.is w.index-a-i.is w.if-i-a.true)));
          }
      | else-i-a+in_ok-push_term-2 w ↦
          let out : sum_of c.if-i-a.out.items ≡ sum_of c.extend_from_slice.new.self.items ++ (y ∷ []) =
          ap (λ (v : Vec Term Global). sum_of v.items) w.out-is ∙ w.in_ok-push_term-2.ensures ∙ ap (λ (s : Sum). sum_of c.extend_from_slice.new.self.items ++ s) (entry_alone y.0 y.1 (second_positive _ _ _ _ y right copied)) in
          let i_is : c.if-i-a.i ≡ next = w.i-is in
          let below : RanksBelow (rank y.0) (sum_of (drop next c.args.a.now)) = elim w.else-i-a.branch [
            | else-i-a-via-then-i-a+else-eq w' ↦
                rest_below c.args.a.now c.loop-t.i next y.0 c.first_not_above-next.ensures w'.index-a-i.result w'.index-a-i.is w'.if-i-a.true (eqb-false _ _ (sym w'.eq.ensures ∙ w'.if-eq.false)) (back_proper copied)
            | else-i-a-via-else-i-a w' ↦ subst (RanksBelow (rank y.0)) (sym (none_left c.args.a.now next w'.if-i-a.false)) tt
          ] in
          record {
            within = omega (arith, i_is, c.first_not_above-next.ensures.within);
            so_far = moved (sym out) (ap (λ k. sum_of (drop k c.args.a.now)) (sym i_is)) refl (merging_second _ _ _ y (sum_of (drop next c.args.a.now)) right copied below);
          }
    ]

pub returns : goal.returns
returns c =
    let now = c.loop-t.invariant in
    let second = shifted_form c.args.m.now c.args.c (sum_of c.args.b.now) (pos_of_ne-zero c.requires.some) c.requires.below c.requires.right in
    let out : sum_of c.extend_from_slice-2.new.self.items ≡ sum_of c.loop-t.out.items ++ sum_of (drop c.loop-t.i c.args.a.now) =
    ap sum_of (c.in_ok-extend_from_slice-2.ensures.items ∙ ap (λ (ts : List Term). c.loop-t.out.items ++ ts) (take_rest c.args.a.now c.loop-t.i)) ∙ sum_of-append c.loop-t.out.items (drop c.loop-t.i c.args.a.now) in
    let ended = ap (shift_reduced c.args.m.now c.args.c) (none_left c.args.b.now c.loop-t.t-index (omega arith)) in
    let q = shift_reduced c.args.m.now c.args.c (sum_of c.args.b.now) in
    let whole : IsForm (sum_of c.loop-t.out.items ++ sum_of (drop c.loop-t.i c.args.a.now)) (sum_of c.args.a.now ++ q) =
    merged_left _ _ _ _ (subst (λ (s : Sum). Merging (sum_of c.args.a.now) q (sum_of c.loop-t.out.items) (sum_of (drop c.loop-t.i c.args.a.now)) s) ended now.so_far) in
    subst (λ (s : Sum). IsForm s (sum_of c.args.a.now ++ shift c.args.m.now c.args.c (sum_of c.args.b.now))) (sym out)
    (record { whole = alike_trans whole.whole (alike-append (alike_refl (sum_of c.args.a.now)) second.whole); proper = whole.proper })
