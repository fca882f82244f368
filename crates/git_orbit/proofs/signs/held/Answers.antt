use Rattle.std.proofs.Common.{rules, ◌≡◌, ◌≢◌, ◌<◌, ◌∙◌, IsTrue, List, true, false, ap, get_or, inl, inr, length, refl, subst, sym}
use Rattle.std.proofs.Math.IntN.{negsuc}
use Rattle.std.proofs.lemmas.List.{take_all}
use Rattle.git_defs.specs.Vectors.{Vector}
use Rattle.git_geometry.proofs.Signs.{holds_of_signs, signs_of_holds}
use Rattle.git_geometry.specs.Germs.{sign_at, HasNoNegative}
use Rattle.git_defs.proofs.Lengths.{all_of_length}
use Rattle.git_lemmas.specs.Members.{Member}
use Rattle.git_lemmas.proofs.Members.{all_member, member_all}
use Rattle.git_stages.proofs.Fronts.{member_at, member_more}
use Rattle.git_orbit.proofs.signs.held.Goals as goal

never : IsTrue false → ⊥
never h = let e : false ≡ true = h in cc e

refuted : (c : goal.Then-is_negative) → HasNoNegative c.args.cone.now.facets c.args.germ.now → ⊥
refuted c signs =
    let same : c.deref-n-items.result.now ≡ c.args.cone.now.facets = search rules in
    let at : c.n-item.result ≡ get_or c.args.cone.now.facets c.loop-n.n-index c.n-item.result = c.n-item.is ∙ ap (λ (l : List Vector). get_or l c.loop-n.n-index c.n-item.result) same in
    let m = member_at c.args.cone.now.facets c.loop-n.n-index c.n-item.result (subst (λ (l : List Vector). c.loop-n.n-index < length l) same c.loop-n-test.true) in
    all_member (λ (n : Vector). sign_at n c.args.germ.now ≢ negsuc 0) c.n-item.result c.args.cone.now.facets signs (subst (λ (v : Vector). Member v c.args.cone.now.facets) (sym at) m)
    (c.is_negative.ensures.0 c.if-is_negative.true)

kept : (c : goal.After-loop-n) → HasNoNegative c.args.cone.now.facets c.args.germ.now
kept c =
    let same : c.deref-n-items.result.now ≡ c.args.cone.now.facets = search rules in
    let all = take_all c.loop-n.n-index c.args.cone.now.facets (search rules) in
    member_all (λ (n : Vector). sign_at n c.args.germ.now ≢ negsuc 0) c.args.cone.now.facets (subst (λ (u : List Vector). (n : Vector) → Member n u → sign_at n c.args.germ.now ≢ negsuc 0) all c.loop-n.invariant)

pub returns-then-is_negative-clause-signs : goal.returns-then-is_negative-clause-signs
returns-then-is_negative-clause-signs c = (λ t. absurd (never t), λ h. absurd (refuted c h))

pub returns-then-is_negative-clause-holds : goal.returns-then-is_negative-clause-holds
returns-then-is_negative-clause-holds c = (
  λ t. absurd (never t),
  λ h. absurd (refuted c (signs_of_holds c.args.cone.now.k c.args.cone.now.facets c.args.germ.now (all_of_length c.args.cone.now.k c.args.germ.now c.requires.lengths) h)),
)

pub loop-n-preserved : goal.loop-n-preserved
loop-n-preserved c = λ n m.
    let same : c.deref-n-items.result.now ≡ c.args.cone.now.facets = search rules in
    let at : c.n-item.result ≡ get_or c.args.cone.now.facets c.loop-n.n-index c.n-item.result = c.n-item.is ∙ ap (λ (l : List Vector). get_or l c.loop-n.n-index c.n-item.result) same in
    elim (member_more c.args.cone.now.facets c.loop-n.n-index c.n-item.result n (subst (λ (l : List Vector). c.loop-n.n-index < length l) same c.loop-n-test.true) m) [
      | inl l ↦ c.loop-n.invariant n l
      | inr e ↦ λ negative.
          let is : sign_at c.n-item.result c.args.germ.now ≡ negsuc 0 = subst (λ (v : Vector). sign_at v c.args.germ.now ≡ negsuc 0) (sym (at ∙ e)) negative in
          never (sym c.if-is_negative.false ∙ c.is_negative.ensures.1 is)
    ]

pub returns-clause-signs : goal.returns-clause-signs
returns-clause-signs c = (λ t. kept c, λ h. refl)

pub returns-clause-holds : goal.returns-clause-holds
returns-clause-holds c = (
  λ t. holds_of_signs c.args.cone.now.k c.args.cone.now.facets c.args.germ.now (all_of_length c.args.cone.now.k c.args.germ.now c.requires.lengths) (kept c),
  λ h. refl,
)
