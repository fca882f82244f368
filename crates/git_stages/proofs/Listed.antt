-- Each list has a sorted one with its members.
use Rattle.std.proofs.Common.{◌≡◌, ◌⊎◌, ℕ, List, [], ◌∷◌, length, refl, sym, ◌∙◌, ap, subst, arith, inl, inr, suc, ◌≤◌}
use Rattle.std.specs.Prelude.{AllPairs}
use Rattle.std.specs.Cmp.Lexicographic.{slice_cmp}
use Rattle.std.specs.Ordering.{int_cmp, ordering_reverse, is_eq}
use Rattle.std.specs.declared.cmp.Ordering.{Ordering}
use Rattle.std.specs.declared.cmp.Ordering.TheVariants.{Equal, Greater, Less}
use Rattle.git_defs.specs.Vectors.{Vector, Precedes}
use Rattle.git_lemmas.specs.Members.{Member}
use Rattle.git_lemmas.proofs.Members.{member_all, as_member, contained}
use Rattle.std.proofs.lemmas.List.Kept.{AllPairs-cons}
use Rattle.std.specs.Cmp.Rules.{signed_items}
pub use Rattle.git_geometry.proofs.Sorted.{Ascending, vectors_total, irreflexive}
use Rattle.git_geometry.specs.Stages.{Exact}
use Rattle.git_lemmas.proofs.Order.{vectors_ties}
use Rattle.git_geometry.proofs.Contained.{edge_at, primitive_at}

-- ---- each list has a sorted one
record Put (x : Vector) (vs : List Vector) : Type 0 where
  list : List Vector
  ascending : Ascending list
  to : (y : Vector) → Member y list → (x ≡ y) ⊎ Member y vs
  back : (y : Vector) → (x ≡ y) ⊎ Member y vs → Member y list
  size : length list ≤ suc (length vs)

pub data_of : (o : Ordering) → (o ≡ Less) ⊎ ((o ≡ Equal) ⊎ (o ≡ Greater))
data_of Less = inl refl
data_of Equal = inr (inl refl)
data_of Greater = inr (inr refl)

pub turned : (o p : Ordering) → o ≡ ordering_reverse p → p ≡ Greater → o ≡ Less
turned o p e f = e ∙ ap ordering_reverse f

pub equal_same : (u v : Vector) → slice_cmp int_cmp u v ≡ Equal → u ≡ v
equal_same u v e = (signed_items u v).0 (vectors_ties u v ∙ ap is_eq e)

put : (x : Vector) (vs : List Vector) → Ascending vs → Put x vs
put x [] a = record { list = x ∷ []; ascending = (λ y m. absurd m, tt); to = λ y m. m; back = λ y m. m; size = omega arith }
put x (v ∷ vs) a = elim (data_of (slice_cmp int_cmp x v)) [
  | inl less ↦ record {
    list = x ∷ v ∷ vs;
    ascending = (λ y m. elim m [ inl e ↦ subst (Precedes x) e less | inr n ↦ vectors_total.trans x v y less (a.0 y n) ], a);
    to = λ y m. m;
    back = λ y m. m;
    size = omega arith;
  }
  | inr o ↦ elim o [
    | inl same ↦ (let e = equal_same x v same in record {
      list = v ∷ vs;
      ascending = a;
      to = λ y m. inr m;
      back = λ y m. elim m [ inl f ↦ inl (sym e ∙ f) | inr n ↦ n ];
      size = omega arith;
    })
    | inr more ↦ (
        let p = put x vs a.1 in
        let before : Precedes v x = turned (slice_cmp int_cmp v x) (slice_cmp int_cmp x v) (vectors_total.antisymm v x) more in
        record {
          list = v ∷ p.list;
          ascending = (λ y m. elim (p.to y m) [ inl e ↦ subst (Precedes v) e before | inr n ↦ a.0 y n ], p.ascending);
          to = λ y m. elim m [ inl e ↦ inr (inl e) | inr n ↦ elim (p.to y n) [ inl e ↦ inl e | inr q ↦ inr (inr q) ] ];
          back = λ y m. elim m [ inl e ↦ inr (p.back y (inl e)) | inr n ↦ elim n [ inl e ↦ inl e | inr q ↦ inr (p.back y (inr q)) ] ];
          size = (let s = p.size in omega (arith, s));
        })
  ]
]

pub record Listed (vs : List Vector) : Type 0 where
  pub list : List Vector
  pub ascending : Ascending list
  pub to : (y : Vector) → Member y list → Member y vs
  pub back : (y : Vector) → Member y vs → Member y list
  pub size : length list ≤ length vs

pub listed : (vs : List Vector) → Listed vs
listed [] = record { list = []; ascending = tt; to = λ y m. m; back = λ y m. m; size = omega arith }
listed (v ∷ vs) =
    let l = listed vs in
    let p = put v l.list l.ascending in
    record {
      list = p.list;
      ascending = p.ascending;
      to = λ y m. elim (p.to y m) [ inl e ↦ inl e | inr n ↦ inr (l.to y n) ];
      back = λ y m. p.back y (elim m [ inl e ↦ inl e | inr n ↦ inr (l.back y n) ]);
      size = (let s = p.size in let t = l.size in omega (arith, s, t));
    }

pub pairs_of : (vs : List Vector) → Ascending vs → AllPairs Precedes vs
pairs_of [] a = λ i j d h l. absurd (omega arith)
pairs_of (v ∷ vs) a = AllPairs-cons Precedes v vs (member_all (Precedes v) vs a.0) (pairs_of vs a.1)

pub exact_members : (k : ℕ) (A vs ws : List Vector) → ((x : Vector) → Member x vs → Member x ws) → ((x : Vector) → Member x ws → Member x vs) → Exact k A vs → Exact k A ws
exact_members k A vs ws to back e = record {
  edges = λ x m. edge_at e x (back x (as_member ws m));
  primitive = λ x m. primitive_at e x (back x (as_member ws m));
  complete = λ x f. let r = e.complete x f in record { one = r.one; member = contained ws (to r.one (as_member vs r.member)); on = r.on };
}
