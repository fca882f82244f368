-- From the end of the elimination to the answers.
use Rattle.std.proofs.Common.{◌≡◌, ℕ, ◌≤◌, List, [], ◌∷◌, ◌++◌, length, take, drop, refl, sym, subst, arith, inl, inr, append-nil, append_assoc, length-append}
use Rattle.std.proofs.Math.Seq.{drop-length, take-append_seam}
use Rattle.std.proofs.lemmas.List.{take_all}
use Rattle.std.specs.Prelude.{All, Contains}
use Rattle.std.proofs.lemmas.List.{nil_from_length}
use Rattle.git_defs.specs.Vectors.{Vector, units, HasRank}
use Rattle.git_defs.specs.Cones.{AreRays, Cut, IsPointed, SameSet}
use Rattle.git_lemmas.specs.Members.{Member}
use Rattle.git_defs.proofs.Lengths.{OfLength}
use Rattle.git_lemmas.proofs.Members.{contains_member, all_member, contained}
use Rattle.git_geometry.proofs.Cuts.{cut_same}
use Rattle.git_geometry.proofs.Elimination.{end_exact, end_pointed, diagonal_nonzero}
use Rattle.git_geometry.proofs.Facets.{rays_of_exact}
use Rattle.git_geometry.proofs.Lists.{member_left, member_right, member_either}
use Rattle.git_geometry.proofs.Rays.{rays_along, same_through, same_back}
use Rattle.git_geometry.proofs.Spans.{independent_at_most}
use Rattle.git_geometry.proofs.Units.{units_of_length, length-units, units_span}
use Rattle.git_geometry.specs.Elimination.{Eliminated}
use Rattle.git_geometry.specs.Stages.{Exact}
use Rattle.git_stages.proofs.Listed.{exact_members}
use Rattle.git_stages.proofs.Once.{narrow_more, narrow_first}
use Rattle.git_stages.proofs.Prepares.{prepared_cut}
use Rattle.git_stages.proofs.Ranks.{rank_is, full_rank}
use Rattle.git_stages.proofs.Shorts.{short_length}
use Rattle.git_stages.specs.Eliminations.{IsSplit}
use Rattle.git_stages.specs.Narrow.{IsNarrowTo}
use Rattle.git_stages.specs.Prepared.{IsSortedSet, IsPrepared}
use Rattle.git_stages.specs.Ranks.{HaveIndependent, IsRank}
use Rattle.git_stages.specs.Short.{IsShort}
use Rattle.git_stages.specs.Stages.{IsStage}
use Rattle.git_stages.specs.Wide.{NeverWide, IsWideAt}
use Rattle.git_dd.proofs.Lates.{tidied_to, tidied_back}
use Rattle.git_dd.specs.Answers.{AreRaysOf}
use Rattle.git_elimination.specs.Progress.{Progress}
use Rattle.git_dd.specs.Stops.{IsLateWide}
use Rattle.git_dd.specs.Tights.{AreAllTight}
use Rattle.git_stages.specs.declared.wide.WideWhat.{WideWhat}
use Rattle.std.proofs.lemmas.List.Elements.{Contains-append_right}

-- ---- the members of a split
pub split_to : (k : ℕ) (taken left base rest : List Vector) → IsSplit k taken left base rest → (x : Vector) → Member x (base ++ rest) → Member x (taken ++ left)
split_to k taken [] base rest s x m = subst (Member x) ((λ i. s.0 i ++ s.1 i)) m
split_to k taken (b ∷ left) base rest (inl s) x m = subst (Member x) (append_assoc taken (b ∷ []) left) (split_to k (taken ++ b ∷ []) left base rest s.1 x m)
split_to k taken (b ∷ left) base rest (inr s) x m = elim (member_either x base rest m) [
  | inl n ↦ more (split_to k taken left base s.1 s.3 x (member_left x base s.1 n))
  | inr n ↦ elim (subst (Member x) s.2 n) [
    | inl e ↦ member_right x taken (b ∷ left) (inl e)
    | inr o ↦ more (split_to k taken left base s.1 s.3 x (member_right x base s.1 o))
  ]
] where
  more : Member x (taken ++ left) → Member x (taken ++ b ∷ left)
  more n = elim (member_either x taken left n) [ inl l ↦ member_left x taken (b ∷ left) l | inr r ↦ member_right x taken (b ∷ left) (inr r) ]

pub split_from : (k : ℕ) (taken left base rest : List Vector) → IsSplit k taken left base rest → (x : Vector) → Member x (taken ++ left) → Member x (base ++ rest)
split_from k taken [] base rest s x m = subst (Member x) (sym ((λ i. s.0 i ++ s.1 i))) m
split_from k taken (b ∷ left) base rest (inl s) x m = split_from k (taken ++ b ∷ []) left base rest s.1 x (subst (Member x) (sym (append_assoc taken (b ∷ []) left)) m)
split_from k taken (b ∷ left) base rest (inr s) x m =
    let without : Member x (base ++ s.1) → Member x (base ++ rest) = (λ n. elim (member_either x base s.1 n) [ inl l ↦ member_left x base rest l | inr r ↦ member_right x base rest (subst (Member x) (sym s.2) (inr r)) ]) in
    elim (member_either x taken (b ∷ left) m) [
      | inl l ↦ without (split_from k taken left base s.1 s.3 x (member_left x taken left l))
      | inr r ↦ elim r [
        | inl e ↦ member_right x base rest (subst (Member x) (sym s.2) (inl e))
        | inr o ↦ without (split_from k taken left base s.1 s.3 x (member_right x taken left o))
      ]
    ]

module _ (k : ℕ) (given prepared base free rays rest : List Vector) (is_prepared : IsPrepared given prepared) (given_short : All (IsShort k) given)
    (p : Progress k prepared (length prepared) base free rays rest) (full : length base ≡ k) where
  none_free : free ≡ []
  none_free = nil_from_length free (let e = p.size in omega (arith, e, full))

  state : Eliminated k base [] rays
  state = subst (λ (u : List Vector). Eliminated k base u rays) none_free p.state

  pub split : IsSplit k [] prepared base rest
  split = subst (IsSplit k [] prepared base) (append-nil rest) (p.split base [] (subst (λ (u : List Vector). IsSplit k base u base []) (sym (drop-length prepared)) (refl, refl)))

  pub pointed : IsPointed k (Cut k base)
  pointed = end_pointed k base rays state

  pub exact : Exact k base rays
  exact = end_exact k base rays state (λ v m. p.primitive v (Contains-append_right free rays v (contained rays m)) (diagonal_nonzero k base rays state.diagonal v m))

  pub narrow : IsNarrowTo k base rest k
  narrow = subst (λ (u : List Vector). IsNarrowTo k u rest k) (append-nil base) (narrow_more k base [] rest k (omega (arith, full)) (omega arith) (subst (IsNarrowTo k base []) full p.narrow))

  abbrev ordered : List Vector
  ordered = base ++ rest

  pub front : take k ordered ≡ base
  front = subst (λ (n : ℕ). take n ordered ≡ base) full (take-append_seam base rest)

  pub back : drop k ordered ≡ rest
  back = subst (λ (n : ℕ). drop n ordered ≡ rest) full (dropped base rest) where
    dropped : (us vs : List Vector) → drop (length us) (us ++ vs) ≡ vs
    dropped [] vs = refl
    dropped (u ∷ us) vs = dropped us vs

  pub cut_ordered : SameSet (Cut k ordered) (Cut k given)
  cut_ordered = same_through (Cut k ordered) (Cut k prepared) (Cut k given)
      (cut_same k ordered prepared (split_to k [] prepared base rest split) (split_from k [] prepared base rest split))
      (same_back (Cut k given) (Cut k prepared) (prepared_cut k given prepared is_prepared (short_length k given given_short)))

  pub rank : IsRank k given (length base)
  rank = rank_is k given prepared base free rays (short_length k given given_short) (short_length k base p.base_short) is_prepared p.state p.from
      (λ v m. p.spanned v (subst (λ (u : List Vector). Contains u v) (sym (take_all (length prepared) prepared (omega arith))) m))

  pub has_rank : HasRank k given
  has_rank = full_rank k given (short_length k given given_short) (subst (HaveIndependent k given) full rank.reached)

  pub late_wide : (stage : ℕ) (what : WideWhat) → IsLateWide k ordered stage what → IsWideAt k given stage what
  late_wide stage what w =
      let at = subst (λ (u : List Vector). IsStage k u (drop k ordered) stage w.list) front w.at in
      let at2 = subst (λ (u : List Vector). IsStage k base u stage w.list) back at in
      let nar = subst (λ (u : List Vector). IsNarrowTo k u (drop k ordered) w.before) front w.narrow in
      let nar2 = subst (λ (u : List Vector). IsNarrowTo k base u w.before) back nar in
      record {
        vectors = w.list;
        evidence = w.evidence;
        first = record {
          prepared = prepared;
          is_prepared = is_prepared;
          base = base;
          rest = rest;
          split = split;
          stage = at2;
          wide = w.wide;
          first = λ i us h. narrow_first k base rest w.before nar2 i us (let e = w.is in omega (arith, e, h));
        };
      }

  few_stages : (i : ℕ) (us : List Vector) → IsStage k base rest i us → i ≤ length ordered
  few_stages i us (inl e) = let f = e.few in let l = length-append base rest in omega (arith, f, l, full)
  few_stages i us (inr e) = let f = e.few in let g = e.is in let l = length-append base rest in omega (arith, f, g, l, full)

  pub never_wide : IsNarrowTo k (take k ordered) (drop k ordered) (length ordered) → NeverWide k given
  never_wide n = record {
    prepared = prepared;
    is_prepared = is_prepared;
    base = base;
    rest = rest;
    split = split;
    never = λ i us s. narrow_first k base rest (length ordered)
        (subst (λ (u : List Vector). IsNarrowTo k base u (length ordered)) back (subst (λ (u : List Vector). IsNarrowTo k u (drop k ordered) (length ordered)) front n))
        i us (few_stages i us s) s;
  }

  pub are_rays : (vs list : List Vector) → Exact k ordered vs → IsSortedSet vs list → AreRays k (Cut k given) list
  are_rays vs list e t = rays_along k (Cut k ordered) (Cut k given) list cut_ordered (rays_of_exact k ordered list (exact_members k ordered vs list (tidied_back vs list t) (tidied_to vs list t) e) t.sorted)

-- where the rank isn't less than k it is k
pub rank_from : (k : ℕ) (given : List Vector) (n : ℕ) → OfLength k given → IsRank k given n → k ≤ n → HasRank k given
rank_from k given n have r h =
    let c = r.reached in
    let few = independent_at_most k (units k) c.chosen (units_of_length k) (λ v m. units_span k v (have.each v (contains_member v given (all_member (Contains given) v c.chosen c.from m)))) c.independent in
    let e : n ≡ k = (let a = c.count in let b = length-units k in omega (arith, few, a, b, h)) in
    full_rank k given have (subst (HaveIndependent k given) e c)
