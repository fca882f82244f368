-- The faces of groups, gathered: those that are stable for sets of cones, and the minimal ones.
use Rattle.std.proofs.Common.{◌≡◌, ◌+◌, ◌<◌, [], ◌++◌, List, arith, get_or, inl, inr, length, subst, ℕ}
use Rattle.std.specs.Prelude.{◌↔◌, Contains}
use Rattle.std.proofs.lemmas.Bool.{cases_lt}
use Rattle.std.proofs.lemmas.List.Elements.{Contains-append_cases, Contains-append_left, Contains-append_right}
use Rattle.git_bits.specs.Bits.{IsWithin}
use Rattle.git_machine.specs.Signatures.{Has, Signature}
use Rattle.git_orbit.specs.Signatures.{facets_at}
use Rattle.git_bunch.specs.declared.groups.Group.{Group}
use Rattle.git_bunch.specs.Groups.{AreGroups, IsGroupOf, IsOnly}
use Rattle.git_bunch.specs.Least.{AreLeastOf}
use Rattle.git_bunch.specs.Stable.{AreDescending, Family, IsFamily, IsNumberOf, Lost, Minimal, Stable, Wall}
use Rattle.git_bunch.proofs.Sides.{one_number}
use Rattle.git_bunch.proofs.Within.{IsCovered, within_all, within_less}

-- ---- a group
pub record InGroup (F : Family) (i m : ℕ) : Type 0 where
  pub free : Contains F.free m
  pub is : IsNumberOf F.fan F.columns m i

module _ (F : Family) (groups : List Group) (are : AreGroups F groups) (i : ℕ) (g : Group) (low : i < length groups) (at : g ≡ get_or groups i g) where
  group : IsGroupOf F.fan.k F.columns F.free (facets_at F.fan i) g
  group = are.each i g low at

  in_range : i < length F.fan.list
  in_range = let l = are.long in omega (arith, low, l)

  pub to_group : (m : ℕ) → Contains g.all.items m → InGroup F i m
  to_group m h = let p = (group.all m).0 h in record { free = p.0; is = record { in_range = in_range; cone = p.1 } }

  pub from_group : (m : ℕ) → InGroup F i m → Contains g.all.items m
  from_group m p = (group.all m).1 (p.free, p.is.cone)

-- ---- those of which the number is in a set
-- m is in the group of one of the first so many numbers, and Q holds of this number
pub record IsChosen (F : Family) (Q : ℕ → Type 0) (count m : ℕ) : Type 0 where
  pub number : ℕ
  pub low : number < count
  pub holds : Q number
  pub group : InGroup F number m

abbrev pub Gathered : Family → (ℕ → Type 0) → ℕ → List ℕ → Type 0
Gathered F Q count all = (m : ℕ) → Contains all m ↔ IsChosen F Q count m

pub gathered_none : (F : Family) (Q : ℕ → Type 0) → Gathered F Q 0 []
gathered_none F Q m = (λ h. absurd (let l = h.1 in omega (arith, l)), λ p. absurd (let l = p.low in omega (arith, l)))

chosen_later : (F : Family) (Q : ℕ → Type 0) (i m : ℕ) → IsChosen F Q i m → IsChosen F Q (i + 1) m
chosen_later F Q i m p = record { number = p.number; low = (let l = p.low in omega (arith, l)); holds = p.holds; group = p.group }

chosen_before : (F : Family) (Q : ℕ → Type 0) (i m : ℕ) (p : IsChosen F Q (i + 1) m) → p.number < i → IsChosen F Q i m
chosen_before F Q i m p low = record { number = p.number; low = low; holds = p.holds; group = p.group }

module _ (F : Family) (Q : ℕ → Type 0) (groups : List Group) (are : AreGroups F groups) (i : ℕ) (g : Group) (low : i < length groups) (at : g ≡ get_or groups i g) where
  pub gathered_more : (all : List ℕ) → Q i → Gathered F Q i all → Gathered F Q (i + 1) (all ++ g.all.items)
  gathered_more all holds before m = (
    λ h. elim (Contains-append_cases all g.all.items m h) [
      | inl old ↦ chosen_later F Q i m ((before m).0 old)
      | inr new ↦ record { number = i; low = omega arith; holds = holds; group = to_group F groups are i g low at m new }
    ],
    λ p. elim (cases_lt p.number i) [
      | inl below ↦ Contains-append_left all g.all.items m ((before m).1 (chosen_before F Q i m p below))
      | inr here ↦ (let e : p.number ≡ i = (let l = p.low in omega (arith, here, l)) in
          Contains-append_right all g.all.items m (from_group F groups are i g low at m (subst (λ (n : ℕ). InGroup F n m) e p.group)))
    ],
  )

pub gathered_less : (F : Family) (Q : ℕ → Type 0) (i : ℕ) (all : List ℕ) → (Q i → ⊥) → Gathered F Q i all → Gathered F Q (i + 1) all
gathered_less F Q i all fails before m = (
  λ h. chosen_later F Q i m ((before m).0 h),
  λ p. elim (cases_lt p.number i) [
    | inl below ↦ (before m).1 (chosen_before F Q i m p below)
    | inr here ↦ (let e : p.number ≡ i = (let l = p.low in omega (arith, here, l)) in absurd (fails (subst Q e p.holds)))
  ],
)

-- ---- stable for one set and for neither of two others
module _ (F : Family) (is : IsFamily F) (on one two : Signature) where
  -- the number of a stable face is that of its group
  has_number : (s : Signature) (i m : ℕ) → InGroup F i m → Stable F s m → Has s i
  has_number s i m p stable = subst (Has s) (one_number F m stable.number i is stable.is p.is) stable.has

  stable_of : (s : Signature) (i m : ℕ) → InGroup F i m → Has s i → Stable F s m
  stable_of s i m p has = record { free = p.free; number = i; is = p.is; has = has }

  pub only_falling : (count : ℕ) (all out : List ℕ) → count ≡ length F.fan.list → Gathered F (IsOnly on one two) count all → AreDescending (Contains all) out → AreDescending (Wall F one two on) out
  only_falling count all out whole gathered d = record {
    descending = d.descending;
    each = λ m. (
      λ h. (let p = (gathered m).0 ((d.each m).0 h) in record {
        on = stable_of on p.number m p.group p.holds.has;
        before = λ s. p.holds.not_one (has_number one p.number m p.group s);
        after = λ s. p.holds.not_two (has_number two p.number m p.group s);
      }),
      λ w. (d.each m).1 ((gathered m).1 (let s = w.on in let g : InGroup F s.number m = record { free = s.free; is = s.is } in record {
        number = s.number;
        low = (let l = s.is.in_range in omega (arith, l, whole));
        holds = record { has = s.has; not_one = λ h. w.before (stable_of one s.number m g h); not_two = λ h. w.after (stable_of two s.number m g h) };
        group = g;
      })),
    );
  }

-- what is lost and gained are such faces, with one set twice
pub lost_falling : (F : Family) (s t : Signature) (list : List ℕ) → AreDescending (Wall F t t s) list → AreDescending (Lost F s t) list
lost_falling F s t list d = record {
  descending = d.descending;
  each = λ m. (
    λ h. (let w = (d.each m).0 h in record { before = w.on; after = w.before }),
    λ l. (d.each m).1 (record { on = l.before; before = l.after; after = l.after }),
  );
}

-- ---- minimal ones
-- some chosen faces, and within each chosen one is one of them
pub record Leasts (F : Family) (Q : ℕ → Type 0) (count : ℕ) (all : List ℕ) : Type 0 where
  pub inside : (m : ℕ) → Contains all m → IsChosen F Q count m
  pub covers : (m : ℕ) → IsChosen F Q count m → IsCovered all m

pub leasts_none : (F : Family) (Q : ℕ → Type 0) → Leasts F Q 0 []
leasts_none F Q = record { inside = λ m h. absurd (let l = h.1 in omega (arith, l)); covers = λ m p. absurd (let l = p.low in omega (arith, l)) }

module _ (F : Family) (Q : ℕ → Type 0) (groups : List Group) (are : AreGroups F groups) (i : ℕ) (g : Group) (low : i < length groups) (at : g ≡ get_or groups i g) where
  pub leasts_more : (all : List ℕ) → Q i → Leasts F Q i all → Leasts F Q (i + 1) (all ++ g.least.items)
  leasts_more all holds before =
      let group = are.each i g low at in
      record {
        inside = λ m h. elim (Contains-append_cases all g.least.items m h) [
          | inl old ↦ chosen_later F Q i m (before.inside m old)
          | inr new ↦ record { number = i; low = omega arith; holds = holds; group = to_group F groups are i g low at m (group.least m new) }
        ];
        covers = λ m p. elim (cases_lt p.number i) [
          | inl below ↦ (let c = before.covers m (chosen_before F Q i m p below) in (c.0, Contains-append_left all g.least.items c.0 c.1, c.2))
          | inr here ↦ (let e : p.number ≡ i = (let l = p.low in omega (arith, here, l)) in
              let c = group.covers m (from_group F groups are i g low at m (subst (λ (n : ℕ). InGroup F n m) e p.group)) in
              (c.0, Contains-append_right all g.least.items c.0 c.1, c.2))
        ];
      }

pub leasts_less : (F : Family) (Q : ℕ → Type 0) (i : ℕ) (all : List ℕ) → (Q i → ⊥) → Leasts F Q i all → Leasts F Q (i + 1) all
leasts_less F Q i all fails before = record {
  inside = λ m h. chosen_later F Q i m (before.inside m h);
  covers = λ m p. elim (cases_lt p.number i) [
    | inl below ↦ before.covers m (chosen_before F Q i m p below)
    | inr here ↦ (let e : p.number ≡ i = (let l = p.low in omega (arith, here, l)) in absurd (fails (subst Q e p.holds)))
  ];
}

module _ (F : Family) (set : Signature) (count : ℕ) (all out : List ℕ) (whole : count ≡ length F.fan.list) (leasts : Leasts F (Has set) count all) (least : AreLeastOf all out) where
  stable_in : (m : ℕ) → Contains all m → Stable F set m
  stable_in m h = let p = leasts.inside m h in record { free = p.group.free; number = p.number; is = p.group.is; has = p.holds }

  covered : (m : ℕ) → Stable F set m → IsCovered all m
  covered m s = leasts.covers m (record { number = s.number; low = (let l = s.is.in_range in omega (arith, l, whole)); holds = s.has; group = record { free = s.free; is = s.is } })

  pub minimal_falling : AreDescending (Minimal F set) out
  minimal_falling = record {
    descending = least.are.descending;
    each = λ m. (
      λ h. (let l = (least.are.each m).0 h in record {
        stable = stable_in m l.holds;
        alone = λ n s within.
            let c = covered n s in
            let same = l.alone c.0 c.1 (within_all c.0 n m c.2 within) in
            let back = within_less m n (subst (λ (x : ℕ). IsWithin x n) same c.2) in
            let forth = within_less n m within in
            omega (arith, back, forth);
      }),
      λ s. (least.are.each m).1 (record {
        holds = (let c = covered m s.stable in subst (Contains all) (s.alone c.0 (stable_in c.0 c.1) c.2) c.1);
        alone = λ n h within. s.alone n (stable_in n h) within;
      }),
    );
  }
