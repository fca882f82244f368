use Rattle.std.proofs.Common.{◌≡◌, List, [], ◌∷◌, ◌++◌, sym, ◌∙◌, ap, subst, rules, arith, append_assoc}
use Rattle.std.specs.List.{All, Contains}
use Rattle.std.specs.Vec.Iter.{into_iter_items}
use Rattle.std.proofs.lemmas.List.Elements.{All-weaker, All-contains_itself, Contains-append_left}
use Rattle.indexmap.specs.IndexSet.{insert_key}
use Rattle.git_machine.specs.Signatures.{Signature}
use Rattle.git_plain.specs.Closing.{IsGrown}
use Rattle.git_plain.proofs.Grows.{same, starts, grows}
use Rattle.git_plain.proofs.listing.list_all.Goals as goal

pub loop-sig-init : goal.loop-sig-init
loop-sig-init c = record { grown = starts c.args.sigs.now.keys c.requires; few = λ x. x; split = search rules }

-- what is left of a list after its front and one more
moved : (yielded rest left all : List Signature) (x : Signature) → left ≡ x ∷ rest → yielded ++ left ≡ all → (yielded ++ x ∷ []) ++ rest ≡ all
moved yielded rest left all x e split = append_assoc yielded (x ∷ []) rest ∙ (ap (λ (l : List Signature). yielded ++ l) (sym e) ∙ split)

front_of : (part rest all : List Signature) → part ++ rest ≡ all → All (Contains all) part
front_of part rest all split = All-weaker (Contains part) (Contains all) (λ y c. subst (λ (l : List Signature). Contains l y) split (Contains-append_left part rest y c)) part (All-contains_itself part)

pub loop-sig-preserved : goal.loop-sig-preserved
loop-sig-preserved c =
    let keys : c.insert.new.self.keys ≡ insert_key same c.loop-sig.sigs.keys c.in-Some.sig = search rules in
    let left : into_iter_items c.loop-sig.sig-iterator ≡ c.in-Some.sig ∷ into_iter_items c.next.new.self = search rules in record {
      grown = subst (IsGrown c.args.sigs.now.keys (c.loop-sig.yielded ++ c.in-Some.sig ∷ [])) (sym keys) (grows c.args.sigs.now.keys c.loop-sig.yielded c.loop-sig.sigs.keys c.in-Some.sig c.loop-sig.invariant.grown);
      few = λ _. omega (arith, c.len.ensures.len, c.if-len-cap.false);
      split = moved c.loop-sig.yielded (into_iter_items c.next.new.self) (into_iter_items c.loop-sig.sig-iterator) c.args.more.items c.in-Some.sig left c.loop-sig.invariant.split;
    }

pub returns-then-len-cap-clause-full : goal.returns-then-len-cap-clause-full
returns-then-len-cap-clause-full c = λ _.
    let keys : c.insert.new.self.keys ≡ insert_key same c.loop-sig.sigs.keys c.in-Some.sig = search rules in
    let left : into_iter_items c.loop-sig.sig-iterator ≡ c.in-Some.sig ∷ into_iter_items c.next.new.self = search rules in
    let part : List Signature = c.loop-sig.yielded ++ c.in-Some.sig ∷ [] in
    let split = moved c.loop-sig.yielded (into_iter_items c.next.new.self) (into_iter_items c.loop-sig.sig-iterator) c.args.more.items c.in-Some.sig left c.loop-sig.invariant.split in (
      part,
      front_of part (into_iter_items c.next.new.self) c.args.more.items split,
      subst (IsGrown c.args.sigs.now.keys part) (sym keys) (grows c.args.sigs.now.keys c.loop-sig.yielded c.loop-sig.sigs.keys c.in-Some.sig c.loop-sig.invariant.grown),
      omega (arith, c.len.ensures.len, c.if-len-cap.true),
    )
