-- Groups of faces, one after the other.
use Rattle.std.proofs.Common.{◌≡◌, ◌∙◌, ◌+◌, ◌<◌, ◌∷◌, [], ◌++◌, List, arith, get_or, inl, inr, length, length-append, refl, subst, suc, sym, take, zero, ℕ}
use Rattle.std.specs.Prelude.{◌↔◌, Contains}
use Rattle.std.proofs.lemmas.Bool.{cases_lt}
use Rattle.std.proofs.lemmas.List.{take_more}
use Rattle.std.proofs.lemmas.List.Elements.{Contains-append_left}
use Rattle.git_bunch.proofs.Within.{last, last_or}
use Rattle.git_defs.specs.Vectors.{Vector}
use Rattle.git_orbit.specs.Signatures.{facets_at}
use Rattle.git_bunch.specs.declared.groups.Group.{Group}
use Rattle.git_bunch.specs.Groups.{AreGroups, IsGroupOf}
use Rattle.git_bunch.specs.Stable.{Family}

-- the groups of the first so many cones
pub record GroupsBelow (F : Family) (count : ℕ) (groups : List Group) : Type 0 where
  pub long : length groups ≡ count
  pub each : (i : ℕ) (g : Group) → i < count → g ≡ get_or groups i g → IsGroupOf F.fan.k F.columns F.free (facets_at F.fan i) g

pub no_groups : (F : Family) → GroupsBelow F 0 []
no_groups F = record { long = refl; each = λ i g low at. absurd (omega (arith, low)) }

-- an element before the end, and at the end
before_end : (xs : List Group) (x d : Group) (i : ℕ) → i < length xs → get_or (xs ++ x ∷ []) i d ≡ get_or xs i d
before_end [] x d i low = absurd (omega (arith, low))
before_end (y ∷ ys) x d zero low = refl
before_end (y ∷ ys) x d (suc i) low = before_end ys x d i (omega (arith, low))

at_end : (xs : List Group) (x d : Group) → get_or (xs ++ x ∷ []) (length xs) d ≡ x
at_end [] x d = refl
at_end (y ∷ ys) x d = at_end ys x d

pub one_more_group : (F : Family) (i : ℕ) (groups : List Group) (g : Group) → IsGroupOf F.fan.k F.columns F.free (facets_at F.fan i) g → GroupsBelow F i groups → GroupsBelow F (i + 1) (groups ++ g ∷ [])
one_more_group F i groups g is before = record {
  long = (let a = length-append groups (g ∷ []) in let l = before.long in omega (arith, a, l));
  each = λ j h low at.
      let l = before.long in
      elim (cases_lt j i) [
        | inl below ↦ before.each j h below (at ∙ before_end groups g h j (omega (arith, below, l)))
        | inr here ↦ (let e : j ≡ length groups = omega (arith, here, low, l) in
            let same : h ≡ g = at ∙ subst (λ (n : ℕ). get_or (groups ++ g ∷ []) n h ≡ g) (sym e) (at_end groups g h) in
            let place : j ≡ i = omega (arith, here, low) in
            subst (λ (n : ℕ). IsGroupOf F.fan.k F.columns F.free (facets_at F.fan n) h) (sym place) (subst (IsGroupOf F.fan.k F.columns F.free (facets_at F.fan i)) (sym same) is))
      ];
}

pub all_groups : (F : Family) (count : ℕ) (groups : List Group) → count ≡ length F.fan.list → GroupsBelow F count groups → AreGroups F groups
all_groups F count groups e b = record { long = b.long ∙ e; each = λ i g low at. b.each i g (let l = b.long in omega (arith, low, l)) at }

-- the group of a cone, in the family's words
pub group_here : (F : Family) (k i : ℕ) (Q facets : List Vector) (g : Group) → k ≡ F.fan.k → Q ≡ F.columns → facets ≡ facets_at F.fan i → IsGroupOf k Q F.free facets g → IsGroupOf F.fan.k F.columns F.free (facets_at F.fan i) g
group_here F k i Q facets g ek eq ef is =
    subst (λ (n : ℕ). IsGroupOf n F.columns F.free (facets_at F.fan i) g) ek
    (subst (λ (u : List Vector). IsGroupOf k u F.free (facets_at F.fan i) g) eq (subst (λ (u : List Vector). IsGroupOf k Q F.free u g) ef is))

-- ---- those of a list of which P holds
abbrev pub Picks : (ℕ → Type 0) → List ℕ → List ℕ → Type 0
Picks P xs out = (m : ℕ) → Contains out m ↔ (Contains xs m × P m)

pub picks_none : (P : ℕ → Type 0) → Picks P [] []
picks_none P m = (λ h. absurd (let l = h.1 in omega (arith, l)), λ p. absurd (let l = p.0.1 in omega (arith, l)))

pub picks_more : (P : ℕ → Type 0) (xs out : List ℕ) (i : ℕ) → i < length xs → P (get_or xs i 0) → Picks P (take i xs) out → Picks P (take (i + 1) xs) (out ++ get_or xs i 0 ∷ [])
picks_more P xs out i low holds picks = subst (λ (l : List ℕ). Picks P l (out ++ get_or xs i 0 ∷ [])) (sym (take_more xs i 0 low)) (λ m. (
  λ h. elim (last_or out (get_or xs i 0) m h) [
    | inl old ↦ (let p = (picks m).0 old in (Contains-append_left (take i xs) (get_or xs i 0 ∷ []) m p.0, p.1))
    | inr new ↦ (subst (Contains (take i xs ++ get_or xs i 0 ∷ [])) new (last (take i xs) (get_or xs i 0)), subst P new holds)
  ],
  λ p. elim (last_or (take i xs) (get_or xs i 0) m p.0) [
    | inl old ↦ Contains-append_left out (get_or xs i 0 ∷ []) m ((picks m).1 (old, p.1))
    | inr new ↦ subst (Contains (out ++ get_or xs i 0 ∷ [])) new (last out (get_or xs i 0))
  ],
))

pub picks_less : (P : ℕ → Type 0) (xs out : List ℕ) (i : ℕ) → i < length xs → (P (get_or xs i 0) → ⊥) → Picks P (take i xs) out → Picks P (take (i + 1) xs) out
picks_less P xs out i low fails picks = subst (λ (l : List ℕ). Picks P l out) (sym (take_more xs i 0 low)) (λ m. (
  λ h. (let p = (picks m).0 h in (Contains-append_left (take i xs) (get_or xs i 0 ∷ []) m p.0, p.1)),
  λ p. elim (last_or (take i xs) (get_or xs i 0) m p.0) [
    | inl old ↦ (picks m).1 (old, p.1)
    | inr new ↦ absurd (fails (subst P (sym new) p.1))
  ],
))
