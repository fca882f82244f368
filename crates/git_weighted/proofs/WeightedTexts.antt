-- Bytes are an input with weights, or have one answer.
use Rattle.std.proofs.Common.{◌≡◌, ◌⊎◌, inl, inr, ℕ, ◌+◌, ◌≤◌, ◌<◌, List, [], ◌++◌, length, drop, All, true, refl, sym, ap, ◌∙◌, subst}
use Rattle.std.specs.Prelude.{IfSome, Option}
use Rattle.std.proofs.lemmas.Bool.{cases_lt}
use Rattle.git_base.specs.declared.status.Status.TheVariants.{BadInput}
use Rattle.git_defs.specs.Vectors.{Vector}
use Rattle.git_limits.specs.declared.TheConstants.{INPUT_BYTES}
use Rattle.git_stages.specs.Short.{IsShort}
use Rattle.git_input.specs.Inputs.{InputValue}
use Rattle.git_text.specs.declared.fault.BadKind.{BadKind}
use Rattle.git_text.specs.Fronts.{IsFront, IsFirstFrontFault}
use Rattle.std.proofs.Math.Seq.{drop-append_seam, take-append_seam}
use Rattle.git_lines.specs.Lines.{is_ended}
use Rattle.git_text.specs.Grammar.{IsInput}
use Rattle.git_checktext.proofs.LineCounts.{ended_first}
use Rattle.git_text.specs.Reading.{variables_in}
use Rattle.git_text.proofs.Fronts.{one_front}
use Rattle.git_weights.specs.Grammar.{IsWeights}
use Rattle.git_weights.specs.Reading.{IsFirstFault}
use Rattle.git_weights.specs.declared.fault.WeightsFault.{WeightsFault}
use Rattle.git_weights.specs.declared.fault.WeightsFault.TheVariants.{Bad, NoMemory}
use Rattle.git_weights.proofs.Answers.{no_fault, one_fault, one_list, weights_or_fault}
use Rattle.git_weights.proofs.Small.{small_weights}
use Rattle.git_replies.specs.Cases.{HasOne, HasSome, Passes, says}
use Rattle.git_replies.specs.Reads.{too_long}
use Rattle.git_replies.specs.Refusals.{fault_text, long_text}
use Rattle.git_replies.specs.declared.reply.Reply as code
use Rattle.git_replies.proofs.CaseLaws.{one_of}
use Rattle.git_replies.proofs.ReadLaws.{few_pass}
use Rattle.git_replies.proofs.Refused.{long_left}
use Rattle.git_checktext.specs.CheckText.{lines_within}
use Rattle.git_checktext.specs.Reads.{NamesInputFault}
use Rattle.git_checktext.proofs.Texts.{front_or_fault, front_passes, input_one}
use Rattle.git_weighted.specs.WeightedInputs.{IsWeightedInput}
use Rattle.git_weighted.specs.Reads.{NamesWeightsFault, no_weighted_input}
use Rattle.git_weighted.specs.Readings.{IsReading, IsRefusal}
use Rattle.git_weighted.specs.Refusals.{weights_fault_text}
use Rattle.git_weighted.specs.declared.reading.WeightedReading.TheVariants.{Refused}

-- ---- what stands at the head is one
weights_there : (bytes : List ℕ) (v w : InputValue) (used used2 : ℕ) (ws : List Vector) → (v ≡ w) × (used ≡ used2) → IsWeights w.degrees.k (drop used2 bytes) ws → IsWeights v.degrees.k (drop used bytes) ws
weights_there bytes v w used used2 ws f h =
    subst (λ (x : InputValue). IsWeights x.degrees.k (drop used bytes) ws) (sym f.0) (subst (λ (n : ℕ). IsWeights w.degrees.k (drop n bytes) ws) (sym f.1) h)

fault_there : (bytes : List ℕ) (v w : InputValue) (used used2 line column : ℕ) (kind : BadKind) → (v ≡ w) × (used ≡ used2) → IsFirstFault w.degrees.k (drop used2 bytes) line column kind
    → IsFirstFault v.degrees.k (drop used bytes) line column kind
fault_there bytes v w used used2 line column kind f h =
    subst (λ (x : InputValue). IsFirstFault x.degrees.k (drop used bytes) line column kind) (sym f.0) (subst (λ (n : ℕ). IsFirstFault w.degrees.k (drop n bytes) line column kind) (sym f.1) h)

pub one_weighted : (bytes : List ℕ) (v w : InputValue) (vs ws : List Vector) → IsWeightedInput bytes v vs → IsWeightedInput bytes w ws → (v ≡ w) × (vs ≡ ws)
one_weighted bytes v w vs ws h g =
    let f = one_front bytes v w h.used g.used h.front g.front in
    (f.0, one_list v.degrees.k (drop h.used bytes) vs ws h.weights_are (weights_there bytes v w h.used g.used ws f g.weights_are))

-- ---- where something stands, no fault is named
weights_pass : (bytes : List ℕ) (v : InputValue) (ws : List Vector) → IsWeightedInput bytes v ws → Passes (NamesWeightsFault bytes)
weights_pass bytes v ws h o g =
    let f = one_front bytes v g.input h.used g.used h.front g.front in
    no_fault v.degrees.k (drop h.used bytes) ws g.line g.column g.kind h.weights_are (fault_there bytes v g.input h.used g.used g.line g.column g.kind f g.first)

pub weighted_passes : (bytes : List ℕ) (v : InputValue) (ws : List Vector) → IsWeightedInput bytes v ws → Passes (no_weighted_input bytes)
weighted_passes bytes v ws h o (inl long) = few_pass bytes h.few o long
weighted_passes bytes v ws h o (inr (p, inl f)) = front_passes bytes v h.used h.front o f
weighted_passes bytes v ws h o (inr (p, inr (q, f))) = weights_pass bytes v ws h o f

-- ---- one answer
bad_text : ℕ → WeightsFault → List ℕ
bad_text before (Bad line column kind) = weights_fault_text (before + line) column kind
bad_text before NoMemory = []

weights_one : (bytes : List ℕ) → HasOne (NamesWeightsFault bytes)
unfolding bad_text
weights_one bytes x y a b =
    let f = one_front bytes a.input b.input a.used b.used a.front b.front in
    let same = one_fault a.input.degrees.k (drop a.used bytes) a.line a.column b.line b.column a.kind b.kind a.first (fault_there bytes a.input b.input a.used b.used b.line b.column b.kind f b.first) in
    a.is ∙ (λ i. says BadInput (bad_text (lines_within (f.1 i) bytes) (same i))) ∙ sym b.is

pub refusal_one : (bytes : List ℕ) → HasOne (no_weighted_input bytes)
refusal_one bytes = one_of (too_long bytes) _ (λ x y a b. a.1 ∙ sym b.1) (λ p. one_of (NamesInputFault bytes) (NamesWeightsFault bytes) (input_one bytes) (λ q. weights_one bytes))

-- ---- weights or an answer
IsReadOrRefused : List ℕ → Type 0
IsReadOrRefused bytes = ((v : InputValue) × (ws : List Vector) × IsWeightedInput bytes v ws) ⊎ HasSome (no_weighted_input bytes)

weights_read : (bytes : List ℕ) (v : InputValue) (used : ℕ) → length bytes ≤ INPUT_BYTES → IsFront bytes v used → IsReadOrRefused bytes
unfolding IsReadOrRefused
weights_read bytes v used few f = elim (weights_or_fault v.degrees.k (drop used bytes)) [
  | inl w ↦ inl (v, w.0, record { few = few; used = used; front = f; weights_are = w.1 })
  | inr g ↦ (
      let o = says BadInput (weights_fault_text (lines_within used bytes + g.0) g.1 g.2) in
      let names : NamesWeightsFault bytes o = record { input = v; used = used; front = f; line = g.0; column = g.1; kind = g.2; first = g.3; is = refl } in
      inr (o, inr (few_pass bytes few, inr (front_passes bytes v used f, names))))
]

front_read : (bytes : List ℕ) → length bytes ≤ INPUT_BYTES → IsReadOrRefused bytes
unfolding IsReadOrRefused
front_read bytes few = elim (front_or_fault bytes) [
  | inl f ↦ weights_read bytes f.0 f.1.0 few f.1.1
  | inr f ↦ (
      let o = says BadInput (fault_text (variables_in bytes) f.0 f.1 f.2) in
      let names : NamesInputFault bytes o = record { line = f.0; column = f.1; kind = f.2; first = f.3; is = refl } in
      inr (o, inr (few_pass bytes few, inl names)))
]

pub weighted_or_refusal : (bytes : List ℕ) → ((v : InputValue) × (ws : List Vector) × IsWeightedInput bytes v ws) ⊎ HasSome (no_weighted_input bytes)
unfolding IsReadOrRefused
weighted_or_refusal bytes = elim (cases_lt INPUT_BYTES (length bytes)) [ inl long ↦ inr (says BadInput long_text, inl (long, refl)) | inr few ↦ front_read bytes few ]

-- ---- weights after an input
pub follows : (front rest : List ℕ) (v : InputValue) (ws : List Vector) → IsInput front v → is_ended front ≡ true → IsWeights v.degrees.k rest ws → length (front ++ rest) ≤ INPUT_BYTES
    → IsWeightedInput (front ++ rest) v ws
follows front rest v ws i e w few = record {
  few = few;
  used = length front;
  front = record { lines = ended_first front rest e; input = subst (λ (bs : List ℕ). IsInput bs v) (sym (take-append_seam front rest)) i };
  weights_are = subst (λ (bs : List ℕ). IsWeights v.degrees.k bs ws) (sym (drop-append_seam front rest)) w;
}

-- ---- the weights are short
pub short_weights : (k : ℕ) (bytes : List ℕ) (ws : List Vector) → IsWeights k bytes ws → All (IsShort k) ws
short_weights k bytes ws w = let small = small_weights k w.weights ws w.weights_are in λ i d low. record { entries = small.0 i d low; within = small.1 i d low }

-- ---- the answers of the code
module _ (bytes : List ℕ) (few : length bytes ≤ INPUT_BYTES) where
  pub input_refused : (a : code.Reply) (n line column : ℕ) (kind : BadKind) → IsFirstFrontFault bytes line column kind → n ≡ variables_in bytes → a.status ≡ BadInput → a.text.items ≡ fault_text n line column kind → IsRefusal bytes a
  input_refused a n line column kind first same status spells =
      (status, inr (few_pass bytes few, inl (record { line = line; column = column; kind = kind; first = first; is = ap (says BadInput) (spells ∙ ap (λ (m : ℕ). fault_text m line column kind) same) })))

  pub weights_refused : (a : code.Reply) (v : InputValue) (used k before line column : ℕ) (kind : BadKind) → IsFront bytes v used → k ≡ v.degrees.k → IsFirstFault k (drop used bytes) line column kind
      → before ≡ lines_within used bytes → a.status ≡ BadInput → a.text.items ≡ weights_fault_text (before + line) column kind → IsRefusal bytes a
  weights_refused a v used k before line column kind f rows first same status spells = (
    status,
    inr (
      few_pass bytes few,
      inr (
        front_passes bytes v used f,
        record {
          input = v;
          used = used;
          front = f;
          line = line;
          column = column;
          kind = kind;
          first = subst (λ (n : ℕ). IsFirstFault n (drop used bytes) line column kind) rows first;
          is = ap (says BadInput) (spells ∙ ap (λ (m : ℕ). weights_fault_text (m + line) column kind) same);
        },
      ),
    ),
  )

  pub weighted_is : (v : InputValue) (used k : ℕ) (rest : List ℕ) (ws : List Vector) → IsFront bytes v used → k ≡ v.degrees.k → rest ≡ drop used bytes → IsWeights k rest ws → IsWeightedInput bytes v ws
  weighted_is v used k rest ws f rows is w = record {
    few = few;
    used = used;
    front = f;
    weights_are = subst (λ (n : ℕ). IsWeights n (drop used bytes) ws) rows (subst (λ (bs : List ℕ). IsWeights k bs ws) is w);
  }

-- ---- too many bytes
pub long_is_refused : (bytes : List ℕ) (a : code.Reply) → INPUT_BYTES < length bytes → a.status ≡ BadInput → a.text.items ≡ long_text → IsRefusal bytes a
long_is_refused bytes a long status spells = (status, inl (long, ap (says BadInput) spells))

pub long_refused : (left : Option (List ℕ)) (a : code.Reply) → IfSome left (λ bs. INPUT_BYTES < length bs) → a.status ≡ BadInput → a.text.items ≡ long_text → IsReading left (Refused a)
long_refused left a long status spells = let b = long_left INPUT_BYTES left long in (b.0, b.1, long_is_refused b.0 a b.2 status spells)
