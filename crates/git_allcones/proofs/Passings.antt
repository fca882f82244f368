-- One pass through the facets of a cone, with lists as sets.
use Rattle.std.proofs.Common.{All, Contains, List, [], ◌+◌, ◌++◌, ◌<◌, ◌≤◌, ◌∷◌, ◌≡◌, ◌⊎◌, ◌∙◌, ap, drop, get_or, inl, inr, length, map, refl, subst, sym, take, ℕ}
use Rattle.std.proofs.lemmas.List.{drop_all, map-append, take_more}
use Rattle.std.specs.Global.{Vec}
use Rattle.git_ints.specs.declared.vector.IVec.{IVec}
use Rattle.git_defs.specs.Vectors.{Vector}
use Rattle.git_lemmas.specs.Members.{Member}
use Rattle.git_lemmas.proofs.Members.{all_member, as_member, contained, member_all}
use Rattle.git_stages.proofs.Fronts.{drop_more}
use Rattle.git_stages.specs.Short.{IsShort}
use Rattle.git_cone_faces.specs.Faces.{on_wall}
use Rattle.git_cone_faces.specs.Filters.{one_pass, with_wall}
use Rattle.git_cone_faces.proofs.Walls.{wall_member}
use Rattle.git_allcones.specs.Sets.{SameLists, vectors_of}
use Rattle.git_allcones.proofs.Sorts.{from_seen, seen}

pub same_trans : (a b c : List (List Vector)) → SameLists a b → SameLists b c → SameLists a c
same_trans a b c s t vs = (λ m. (t vs).0 ((s vs).0 m), λ m. (s vs).1 ((t vs).1 m))

pub same_turned : (a b : List (List Vector)) → SameLists a b → SameLists b a
same_turned a b s vs = ((s vs).1, (s vs).0)

pub among : (x : List Vector) (us vs : List (List Vector)) → Member x (us ++ vs) → Member x us ⊎ Member x vs
among x [] vs m = inr m
among x (u ∷ us) vs (inl e) = inl (inl e)
among x (u ∷ us) vs (inr m) = elim (among x us vs m) [ inl o ↦ inl (inr o) | inr o ↦ inr o ]

pub on_left : (x : List Vector) (us vs : List (List Vector)) → Member x us → Member x (us ++ vs)
on_left x [] vs m = absurd m
on_left x (u ∷ us) vs (inl e) = inl e
on_left x (u ∷ us) vs (inr m) = inr (on_left x us vs m)

pub on_right : (x : List Vector) (us vs : List (List Vector)) → Member x vs → Member x (us ++ vs)
on_right x [] vs m = m
on_right x (u ∷ us) vs m = inr (on_right x us vs m)

-- more lists of both
pub same_joined : (a b c d : List (List Vector)) → SameLists a b → SameLists c d → SameLists (a ++ c) (b ++ d)
same_joined a b c d s t vs = (λ m. one_way a b c d s t vs m, λ m. one_way b a d c (same_turned a b s) (same_turned c d t) vs m) where
  one_way : (a b c d : List (List Vector)) → SameLists a b → SameLists c d → (vs : List Vector) → Contains (a ++ c) vs → Contains (b ++ d) vs
  one_way a b c d s t vs m = contained (b ++ d) (elim (among vs a c (as_member (a ++ c) m)) [
    | inl o ↦ on_left vs b d (as_member b ((s vs).0 (contained a o)))
    | inr o ↦ on_right vs b d (as_member d ((t vs).0 (contained c o)))
  ])

-- the same lists as two lists joined
pub joined_same : (all lists more : List (Vec IVec)) (out : List (List Vector)) → all ≡ lists ++ more → SameLists out (map vectors_of all)
    → SameLists out (map vectors_of lists ++ map vectors_of more)
joined_same all lists more out e s = subst (SameLists out) (ap (map vectors_of) e ∙ map-append vectors_of lists more) s

walls_within : (n : Vector) (a b : List (List Vector)) → SameLists a b → (vs : List Vector) → Contains (map (on_wall n) a) vs → Contains (map (on_wall n) b) vs
walls_within n a b s vs c =
    let from = from_seen (on_wall n) vs a (as_member (map (on_wall n) a) c) in
    contained (map (on_wall n) b) (subst (λ (u : List Vector). Member u (map (on_wall n) b)) from.2
    (seen (on_wall n) from.0 b (as_member b ((s from.0).0 (contained a from.1)))))

pub with_wall_same : (n : Vector) (a b : List (List Vector)) → SameLists a b → SameLists (with_wall n a) (with_wall n b)
with_wall_same n a b s = same_joined a b (map (on_wall n) a) (map (on_wall n) b) s
    (λ vs. (walls_within n a b s vs, walls_within n b a (same_turned a b s) vs))

pub one_pass_same : (ns : List Vector) (a b : List (List Vector)) → SameLists a b → SameLists (one_pass ns a) (one_pass ns b)
one_pass_same [] a b s = s
one_pass_same (n ∷ ns) a b s = one_pass_same ns (with_wall n a) (with_wall n b) (with_wall_same n a b s)

-- a pass keeps the lists
pub pass_keeps : (ns : List Vector) (lists : List (List Vector)) (vs : List Vector) → Member vs lists → Member vs (one_pass ns lists)
pass_keeps [] lists vs m = m
pass_keeps (n ∷ ns) lists vs m = pass_keeps ns (with_wall n lists) vs (on_left vs lists (map (on_wall n) lists) m)

-- ---- short vectors
abbrev pub AreShortLists : ℕ → List (List Vector) → Type 0
AreShortLists k lists = (vs : List Vector) → Contains lists vs → All (IsShort k) vs

pub wall_short : (k : ℕ) (n : Vector) (vs : List Vector) → All (IsShort k) vs → All (IsShort k) (on_wall n vs)
wall_short k n vs short = member_all (IsShort k) (on_wall n vs) (λ v m. all_member (IsShort k) v vs short (wall_member n vs v m).0)

pub with_wall_short : (k : ℕ) (n : Vector) (lists : List (List Vector)) → AreShortLists k lists → AreShortLists k (with_wall n lists)
with_wall_short k n lists short vs c = elim (among vs lists (map (on_wall n) lists) (as_member (with_wall n lists) c)) [
  | inl o ↦ short vs (contained lists o)
  | inr o ↦
      let from = from_seen (on_wall n) vs lists o in
      subst (All (IsShort k)) from.2 (wall_short k n from.0 (short from.0 (contained lists from.1)))
]

pub short_same : (k : ℕ) (a b : List (List Vector)) → SameLists a b → AreShortLists k b → AreShortLists k a
short_same k a b s short vs c = short vs ((s vs).0 c)

-- ---- the state after i facets
pub record ArePassed (k : ℕ) (facets rays : List Vector) (i : ℕ) (lists : List (List Vector)) : Type 0 where
  pub same : SameLists (one_pass (drop i facets) lists) (one_pass facets (rays ∷ []))
  pub short : AreShortLists k lists

left_after : (facets : List Vector) (i : ℕ) (n : Vector) → i < length facets → n ≡ get_or facets i n → drop i facets ≡ n ∷ drop (i + 1) facets
left_after facets i n h at = drop_more facets i n h ∙ ap (λ (u : Vector). u ∷ drop (i + 1) facets) (sym at)

pub passed_more : (k : ℕ) (facets rays : List Vector) (i : ℕ) (n : Vector) (lists more : List (List Vector)) → i < length facets → n ≡ get_or facets i n
    → ArePassed k facets rays i lists → SameLists more (with_wall n lists) → ArePassed k facets rays (i + 1) more
passed_more k facets rays i n lists more h at p s = record {
  same = same_trans (one_pass (drop (i + 1) facets) more) (one_pass (drop (i + 1) facets) (with_wall n lists)) (one_pass facets (rays ∷ []))
      (one_pass_same (drop (i + 1) facets) more (with_wall n lists) s)
      (subst (λ (ns : List Vector). SameLists (one_pass ns lists) (one_pass facets (rays ∷ []))) (left_after facets i n h at) p.same);
  short = short_same k more (with_wall n lists) s (with_wall_short k n lists p.short);
}

-- what is found on the way belongs to the whole pass
pub found_early : (k : ℕ) (facets rays : List Vector) (i : ℕ) (n : Vector) (lists : List (List Vector)) → i < length facets → n ≡ get_or facets i n
    → ArePassed k facets rays i lists → (vs : List Vector) → Contains (with_wall n lists) vs → Contains (one_pass facets (rays ∷ [])) vs
found_early k facets rays i n lists h at p vs c = (p.same vs).0
    (subst (λ (ns : List Vector). Contains (one_pass ns lists) vs) (sym (left_after facets i n h at))
    (contained (one_pass (drop (i + 1) facets) (with_wall n lists)) (pass_keeps (drop (i + 1) facets) (with_wall n lists) vs (as_member (with_wall n lists) c))))

-- ---- lists that are made one after another
pub mapped_more : {X Y Z : Type 0} (f : X → Z) (g : Y → Z) (out more : List X) (xs : List Y) (i : ℕ) (x : Y) (v : X) → i < length xs
    → map f out ≡ map g (take i xs) → f v ≡ g x → x ≡ get_or xs i x → more ≡ out ++ v ∷ [] → map f more ≡ map g (take (i + 1) xs)
mapped_more f g out more xs i x v h e same at m = ap (map f) m ∙ map-append f out (v ∷ []) ∙ (λ j. e j ++ (same ∙ ap g at) j ∷ [])
    ∙ sym (ap (map g) (take_more xs i x h) ∙ map-append g (take i xs) (get_or xs i x ∷ []))

pub mapped_twice : {X Y Z : Type 0} (f : X → Y) (g : Y → Z) (xs : List X) → map (λ x. g (f x)) xs ≡ map g (map f xs)
mapped_twice f g [] = refl
mapped_twice f g (x ∷ xs) = ap (λ zs. g (f x) ∷ zs) (mapped_twice f g xs)

-- ---- after all facets
pub passed_last : (k : ℕ) (facets rays : List Vector) (i : ℕ) (lists : List (List Vector)) → length facets ≤ i → ArePassed k facets rays i lists
    → SameLists lists (one_pass facets (rays ∷ []))
passed_last k facets rays i lists h p = subst (λ (ns : List Vector). SameLists (one_pass ns lists) (one_pass facets (rays ∷ []))) (drop_all i facets h) p.same
