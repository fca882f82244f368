-- What the walk keeps.
use Rattle.std.proofs.Common.{◌≡◌, ◌⊎◌, inl, inr, ◌↔◌, ℕ, zero, suc, ◌+◌, ◌<◌, ◌≤◌, Bool, true, false, List, [], ◌∷◌, ◌++◌, length, set, take, get_or, map, Some, refl, sym, ap, ◌∙◌, subst, arith, length-append, length-set}
use Rattle.std.specs.Prelude.{slice_get}
use Rattle.std.proofs.lemmas.Bool.{cases_lt}
use Rattle.std.proofs.lemmas.List.{map_push, take_more}
use Rattle.git_lemmas.specs.Members.{Member}
use Rattle.git_lemmas.proofs.Options.{some_is}
use Rattle.git_listing.specs.Listings.{boundary, inner, Facet, Chamber}
use Rattle.git_listing.specs.Views.{chamber_of, facet_of}
use Rattle.git_listing.specs.declared.listing.ListedChamber.{ListedChamber}
use Rattle.git_listing.specs.declared.listing.ListedFacet.{ListedFacet}
use Rattle.git_asked.specs.Asked.{Names}
use Rattle.git_asked.specs.Ways.{Way}
use Rattle.git_asked.proofs.Places.{map_at, within}
use Rattle.git_walk.specs.Walks.{AreLed, IsWalk, Marked, Marks, NamedBy, left_to_do, unmarked}

-- ---- places
pub got_is : {A : Type 0} (xs : List A) (i : ℕ) (x : A) → i < length xs → x ≡ get_or xs i x → slice_get xs i ≡ Some x
got_is [] i x lt e = absurd (omega (arith, lt))
got_is (y ∷ xs) zero x lt e = ap Some (sym e)
got_is (y ∷ xs) (suc i) x lt e = got_is xs i x (omega (arith, lt)) e

got_or : {A : Type 0} (xs : List A) (i : ℕ) (d : A) → i < length xs → slice_get xs i ≡ Some (get_or xs i d)
got_or [] i d lt = absurd (omega (arith, lt))
got_or (y ∷ xs) zero d lt = refl
got_or (y ∷ xs) (suc i) d lt = got_or xs i d (omega (arith, lt))

pub chamber_at : (cs : List ListedChamber) (i : ℕ) (x : ListedChamber) (d : Chamber) → i < length cs → x ≡ get_or cs i x → slice_get (map chamber_of cs) i ≡ Some d → d ≡ chamber_of x
chamber_at cs i x d lt e g = some_is d (chamber_of x) (sym g ∙ map_at chamber_of cs i x (got_is cs i x lt e))

-- ---- lists

in_push : (i x : ℕ) (xs : List ℕ) → Member i xs → Member i (xs ++ x ∷ [])
in_push i x [] h = absurd h
in_push i x (y ∷ ys) h = elim h [ inl e ↦ inl e | inr k ↦ inr (in_push i x ys k) ]

in_last : (x : ℕ) (xs : List ℕ) → Member x (xs ++ x ∷ [])
in_last x [] = inl refl
in_last x (y ∷ ys) = inr (in_last x ys)

pub in_of_push : (i x : ℕ) (xs : List ℕ) → Member i (xs ++ x ∷ []) → Member i xs ⊎ (i ≡ x)
in_of_push i x [] h = elim h [ inl e ↦ inr (sym e) | inr k ↦ absurd k ]
in_of_push i x (y ∷ ys) h = elim h [ inl e ↦ inl (inl e) | inr k ↦ elim (in_of_push i x ys k) [ inl g ↦ inl (inr g) | inr g ↦ inr g ] ]

set_keeps : (m : List Bool) (k i : ℕ) → Marked m i → Marked (set m k true) i
set_keeps [] k i h = absurd (cc h)
set_keeps (b ∷ bs) zero zero h = refl
set_keeps (b ∷ bs) zero (suc i) h = h
set_keeps (b ∷ bs) (suc k) zero h = h
set_keeps (b ∷ bs) (suc k) (suc i) h = set_keeps bs k i h

set_marks : (m : List Bool) (k : ℕ) → k < length m → Marked (set m k true) k
set_marks [] k lt = absurd (omega (arith, lt))
set_marks (b ∷ bs) zero lt = refl
set_marks (b ∷ bs) (suc k) lt = set_marks bs k (omega (arith, lt))

set_fresh : (m : List Bool) (k i : ℕ) → Marked (set m k true) i → Marked m i ⊎ (i ≡ k)
set_fresh [] k i h = inl h
set_fresh (b ∷ bs) zero zero h = inr refl
set_fresh (b ∷ bs) zero (suc i) h = inl h
set_fresh (b ∷ bs) (suc k) zero h = inl h
set_fresh (b ∷ bs) (suc k) (suc i) h = elim (set_fresh bs k i h) [ inl g ↦ inl g | inr g ↦ inr (ap suc g) ]

set_less : (m : List Bool) (k : ℕ) → slice_get m k ≡ Some false → unmarked (set m k true) + 1 ≡ unmarked m
set_less [] k e = absurd (cc e)
set_less (true ∷ bs) zero e = absurd (cc e)
set_less (false ∷ bs) zero e = omega arith
set_less (true ∷ bs) (suc k) e = set_less bs k e
set_less (false ∷ bs) (suc k) e = let h = set_less bs k e in omega (arith, h)

-- ---- steps

pub marks_none : (P : ℕ → Type 0) (m : List Bool) (p : List ℕ) → ((i : ℕ) → P i → i < length m → Marked m i) → Marks P m m p p
marks_none P m p h = record { same = refl; keeps = λ i k. k; marked = h; fresh = λ i k. inl k; kept = λ i k. k; noted = λ i k. inl k; known = λ i k. inl k; less = omega arith }

pub marks_one : (P : ℕ → Type 0) (m : List Bool) (p : List ℕ) (place : ℕ) → place < length m → slice_get m place ≡ Some false → ((i : ℕ) → P i → i ≡ place) → P place → Marks P m (set m place true) p (p ++ place ∷ [])
marks_one P m p place lt e only has = record {
  same = length-set m place true;
  keeps = set_keeps m place;
  marked = λ i q h. subst (Marked (set m place true)) (sym (only i q)) (set_marks m place lt);
  fresh = λ i h. elim (set_fresh m place i h) [ inl g ↦ inl g | inr g ↦ inr (subst P (sym g) has) ];
  kept = λ i h. in_push i place p h;
  noted = λ i h. elim (set_fresh m place i h) [ inl g ↦ inl g | inr g ↦ inr (subst (λ x. Member x (p ++ place ∷ [])) (sym g) (in_last place p)) ];
  known = λ i h. elim (in_of_push i place p h) [ inl g ↦ inl g | inr g ↦ inr (subst (Marked (set m place true)) (sym g) (set_marks m place lt)) ];
  less = (let h = set_less m place e in omega (arith, h, length-append p (place ∷ [])));
}

-- two steps
pub marks_both : (P Q R : ℕ → Type 0) (m1 m2 m3 : List Bool) (p1 p2 p3 : List ℕ) → ((i : ℕ) → R i → P i ⊎ Q i) → ((i : ℕ) → P i → R i) → ((i : ℕ) → Q i → R i) → Marks P m1 m2 p1 p2 → Marks Q m2 m3 p2 p3 → Marks R m1 m3 p1 p3
marks_both P Q R m1 m2 m3 p1 p2 p3 apart first second a b = record {
  same = b.same ∙ a.same;
  keeps = λ i h. b.keeps i (a.keeps i h);
  marked = λ i r lt. elim (apart i r) [ inl q ↦ b.keeps i (a.marked i q lt) | inr q ↦ b.marked i q (omega (arith, lt, a.same)) ];
  fresh = λ i h. elim (b.fresh i h) [ inl g ↦ elim (a.fresh i g) [ inl k ↦ inl k | inr k ↦ inr (first i k) ] | inr g ↦ inr (second i g) ];
  kept = λ i h. b.kept i (a.kept i h);
  noted = λ i h. elim (b.noted i h) [ inl g ↦ elim (a.noted i g) [ inl k ↦ inl k | inr k ↦ inr (b.kept i k) ] | inr g ↦ inr g ];
  known = λ i h. elim (b.known i h) [ inl g ↦ elim (a.known i g) [ inl k ↦ inl k | inr k ↦ inr (b.keeps i k) ] | inr g ↦ inr g ];
  less = (let h = a.less in let k = b.less in omega (arith, h, k));
}

-- ---- facets

get_append : {A : Type 0} (xs : List A) (x y : A) (i : ℕ) → slice_get (xs ++ x ∷ []) i ≡ Some y → (slice_get xs i ≡ Some y) ⊎ (x ≡ y)
get_append [] x y zero e = inr (some_is x y e)
get_append [] x y (suc i) e = absurd (cc e)
get_append (z ∷ xs) x y zero e = inl e
get_append (z ∷ xs) x y (suc i) e = get_append xs x y i e

get_front : {A : Type 0} (xs : List A) (x y : A) (i : ℕ) → slice_get xs i ≡ Some y → slice_get (xs ++ x ∷ []) i ≡ Some y
get_front [] x y i e = absurd (cc e)
get_front (z ∷ xs) x y zero e = e
get_front (z ∷ xs) x y (suc i) e = get_front xs x y i e

get_end : {A : Type 0} (xs : List A) (x : A) → slice_get (xs ++ x ∷ []) (length xs) ≡ Some x
get_end [] x = refl
get_end (z ∷ xs) x = get_end xs x

inner_number : (m n : ℕ) (a b : Bool) → inner m a ≡ inner n b → m ≡ n
inner_number m n a b e = cc

-- a facet more, whose side is inner with this number
pub named_inner : (fs : List Facet) (f : Facet) (number : ℕ) (matched : Bool) (m1 m2 m3 : List Bool) (p1 p2 p3 : List ℕ) → f.side ≡ inner number matched → Marks (NamedBy fs) m1 m2 p1 p2 → Marks (λ i. number ≡ i + 1) m2 m3 p2 p3
    → Marks (NamedBy (fs ++ f ∷ [])) m1 m3 p1 p3
named_inner fs f number matched m1 m2 m3 p1 p2 p3 side a b =
    marks_both (NamedBy fs) (λ i. number ≡ i + 1) (NamedBy (fs ++ f ∷ [])) m1 m2 m3 p1 p2 p3
    (λ i h. elim (get_append fs f h.1 h.0 h.2) [ inl e ↦ inl (h.0, h.1, e, h.3) | inr e ↦ inr (inner_number number (i + 1) matched h.3.0 (sym side ∙ ap (λ (x : Facet). x.side) e ∙ h.3.1)) ])
    (λ i h. (h.0, h.1, get_front fs f h.1 h.0 h.2, h.3))
    (λ i h. (length fs, f, get_end fs f, (matched, side ∙ ap (λ (n : ℕ). inner n matched) h)))
    a b

-- and one at the boundary
pub named_boundary : (fs : List Facet) (f : Facet) (m1 m2 : List Bool) (p1 p2 : List ℕ) → f.side ≡ boundary → Marks (NamedBy fs) m1 m2 p1 p2 → Marks (NamedBy (fs ++ f ∷ [])) m1 m2 p1 p2
named_boundary fs f m1 m2 p1 p2 side a =
    marks_both (NamedBy fs) (λ i. ⊥) (NamedBy (fs ++ f ∷ [])) m1 m2 m2 p1 p2 p2
    (λ i h. elim (get_append fs f h.1 h.0 h.2) [ inl e ↦ inl (h.0, h.1, e, h.3) | inr e ↦ absurd (let bad : boundary ≡ inner (i + 1) h.3.0 = sym side ∙ ap (λ (x : Facet). x.side) e ∙ h.3.1 in cc) ])
    (λ i h. (h.0, h.1, get_front fs f h.1 h.0 h.2, h.3))
    (λ i h. absurd h)
    a (marks_none (λ i. ⊥) m2 p2 (λ i h lt. absurd h))

pub facets_push : (fs : List ListedFacet) (i : ℕ) (x : ListedFacet) → i < length fs → x ≡ get_or fs i x → map facet_of (take (i + 1) fs) ≡ map facet_of (take i fs) ++ facet_of x ∷ []
facets_push fs i x lt e = ap (map facet_of) (take_more fs i x lt ∙ ap (λ (y : ListedFacet). take i fs ++ y ∷ []) (sym e)) ∙ map_push facet_of (take i fs) x

-- ---- the walk

pub walk_on : (cs : List Chamber) (starts : ℕ → Type 0) (m new : List Bool) (all rest after : List ℕ) (p : ℕ) (c : Chamber) → IsWalk cs starts m all → all ≡ rest ++ p ∷ [] → slice_get cs p ≡ Some c
    → Marks (NamedBy c.facets) m new rest after → IsWalk cs starts new after
walk_on cs starts m new all rest after p c w is e a =
    let here : Member p all = subst (Member p) (sym is) (in_last p rest) in
    let at = w.known p here in
    record {
      same = a.same ∙ w.same;
      sound = λ i h. elim (a.fresh i h) [
        | inl g ↦ w.sound i g
        | inr g ↦ (let s = w.sound p at in (s.0, s.1, (p ∷ s.2.0, (record { chamber = c; there = e; place = g.0; facet = g.1; stands = g.2; matched = g.3.0; is = g.3.1 }, s.2.1))))
      ];
      begins = λ b s lt. a.keeps b (w.begins b s lt);
      closed = λ i n h names lt. elim (a.noted i h) [
        | inl g ↦ elim (w.closed i n g names lt) [
          | inl k ↦ inl (a.keeps n k)
          | inr k ↦ elim (in_of_push i p rest (subst (Member i) is k)) [
            | inl r ↦ inr (a.kept i r)
            | inr r ↦ inl (a.marked n (let same : names.chamber ≡ c = some_is names.chamber c (sym names.there ∙ ap (slice_get cs) r ∙ e) in
                subst (λ (x : Chamber). NamedBy x.facets n) same (names.place, names.facet, names.stands, (names.matched, names.is))) (omega (arith, lt, w.same)))
          ]
        ]
        | inr g ↦ inr g
      ];
      known = λ i h. elim (a.known i h) [ inl g ↦ a.keeps i (w.known i (subst (Member i) (sym is) (in_push i p rest g))) | inr g ↦ g ];
    }

closed_way : (cs : List Chamber) (starts : ℕ → Type 0) (m : List Bool) → IsWalk cs starts m [] → (b : ℕ) → starts b → b < length cs → (way : List ℕ) (i : ℕ) → Way (Names cs) b way i → i < length cs → Marked m i
closed_way cs starts m w b s bl [] i h lt = subst (Marked m) (sym h) (w.begins b s bl)
closed_way cs starts m w b s bl (r ∷ rs) i h lt =
    let before = closed_way cs starts m w b s bl rs r h.1 (within cs r h.0.chamber h.0.there) in
    elim (w.closed r i before h.0 lt) [ inl k ↦ k | inr k ↦ absurd k ]

pub walk_done : (cs : List Chamber) (starts m : List Bool) → length starts ≡ length cs → IsWalk cs (Marked starts) m [] → AreLed cs starts m
walk_done cs starts m same w = record {
  same = w.same;
  each = λ i lt. (w.sound i, λ h. closed_way cs (Marked starts) m w h.0 h.1 (let low = within starts h.0 true h.1 in omega (arith, low, same)) h.2.0 i h.2.1 lt);
}

-- ---- the marked places

pub places_push : (xs : List ℕ) (m : List Bool) (i : ℕ) → ((k : ℕ) → Member k xs ↔ ((k < i) × Marked m k)) → Marked m i → (k : ℕ) → Member k (xs ++ i ∷ []) ↔ ((k < i + 1) × Marked m k)
places_push xs m i h at k = (
  (λ q. elim (in_of_push k i xs q) [ inl g ↦ (let r = (h k).0 g in (omega (arith, r.0), r.1)) | inr g ↦ (omega (arith, g), subst (Marked m) (sym g) at) ]),
  (λ q. elim (cases_lt k i) [ inl less ↦ in_push k i xs ((h k).1 (less, q.1)) | inr more ↦ (let same : i ≡ k = omega (arith, more, q.0) in subst (λ x. Member x (xs ++ i ∷ [])) same (in_last i xs)) ]),
)

pub places_same : (xs : List ℕ) (m : List Bool) (i : ℕ) → ((k : ℕ) → Member k xs ↔ ((k < i) × Marked m k)) → (Marked m i → ⊥) → (k : ℕ) → Member k xs ↔ ((k < i + 1) × Marked m k)
places_same xs m i h not_here k = (
  (λ q. (let r = (h k).0 q in (omega (arith, r.0), r.1))),
  (λ q. elim (cases_lt k i) [ inl less ↦ (h k).1 (less, q.1) | inr more ↦ absurd (let same : k ≡ i = omega (arith, more, q.0) in not_here (subst (Marked m) same q.1)) ]),
)

pub places_all : (xs : List ℕ) (m : List Bool) (i : ℕ) → length m ≤ i → ((k : ℕ) → Member k xs ↔ ((k < i) × Marked m k)) → (k : ℕ) → Member k xs ↔ Marked m k
places_all xs m i le h k = ((λ q. ((h k).0 q).1), (λ q. (h k).1 (omega (arith, le, within m k true q), q)))

pub not_marked : (m : List Bool) (i : ℕ) → i < length m → get_or m i false ≡ false → Marked m i → ⊥
not_marked m i lt e h = let bad = some_is (get_or m i false) true (sym (got_or m i false lt) ∙ h) in cc (e, bad)

pub is_marked : (m : List Bool) (i : ℕ) → i < length m → get_or m i false ≡ true → Marked m i
is_marked m i lt e = got_or m i false lt ∙ ap Some e

pub pending_within : (cs : List Chamber) (starts : ℕ → Type 0) (m : List Bool) (all rest : List ℕ) (p : ℕ) → IsWalk cs starts m all → all ≡ rest ++ p ∷ [] → p < length cs
pending_within cs starts m all rest p w is = let at = w.known p (subst (Member p) (sym is) (in_last p rest)) in omega (arith, within m p true at, w.same)

pub walk_less : (m new : List Bool) (all rest after : List ℕ) (p : ℕ) → all ≡ rest ++ p ∷ [] → left_to_do new after ≤ left_to_do m rest → left_to_do new after < left_to_do m all
walk_less m new all rest after p is h = omega (arith, h, ap length is, length-append rest (p ∷ []))

-- the walk begins
pub walk_begins : (cs : List Chamber) (starts : ℕ → Type 0) (m : List Bool) (p : List ℕ) → length m ≡ length cs → ((i : ℕ) → Marked m i ↔ starts i) → ((i : ℕ) → Member i p ↔ Marked m i) → IsWalk cs starts m p
walk_begins cs starts m p same marks places = record {
  same = same;
  sound = λ i h. (i, (marks i).0 h, ([], refl));
  begins = λ b s lt. (marks b).1 s;
  closed = λ i n h names lt. inr ((places i).1 h);
  known = λ i h. (places i).0 h;
}
