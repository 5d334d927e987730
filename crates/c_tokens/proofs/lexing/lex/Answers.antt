-- At the end no piece is left.
use Rattle.std.proofs.Common.{arith, ap, sym, ◌∙◌, ◌≡◌, List, [], false, subst, ℕ, length}
use Rattle.std.proofs.lemmas.Str.{IsCharBoundary-start}
use Rattle.c_tokens.specs.declared.pieces.Context.TheVariants.{Fresh}
use Rattle.c_tokens.specs.Pieces.{pieces}
use Rattle.c_tokens.specs.declared.types.LexFault.{LexFault}
use Rattle.c_tokens.specs.Lexed.{pieces_of}
use Rattle.c_tokens.specs.Laws.{InOrder, ranges}
use Rattle.c_tokens.specs.Reading.{rest}
use Rattle.c_tokens.proofs.LexingLemmas.{goes_begins}
use Rattle.c_tokens.proofs.EndLemmas.{ended_tokens, ended_places, ended_faults, numbered_faults}
use Rattle.c_tokens.proofs.OrderLemmas.{order_further}
use Rattle.c_tokens.proofs.LawLemmas.{paired}
use Rattle.c_tokens.proofs.lexing.lex.Goals as goal

pub loop-piece-init : goal.loop-piece-init
loop-piece-init c = record {
  goes = rw (c.new.ensures.items, c.new-2.ensures.items, c.new-3.ensures.items) (goes_begins (pieces Fresh false 0 (rest c.args.text.now 0)));
  within = omega arith;
  boundary = IsCharBoundary-start c.args.text.now c.utf8.text;
  place_order = rw c.new-2.ensures.items (omega arith);
  fault_order = rw c.new-3.ensures.items (omega arith);
  numbered = rw c.new.ensures.items (omega arith);
}

pub returns-clause-tokens : goal.returns-clause-tokens
returns-clause-tokens c =
    let none : rest c.args.text.now c.loop-piece.at ≡ [] = subst (λ (t : List ℕ). rest t c.loop-piece.at ≡ []) c.as_bytes.ensures.value c.in_default.ensures in
    c.from_vec.ensures ∙ ended_tokens _ _ _ c.args.text.now c.loop-piece.at c.loop-piece.context c.loop-piece.spaced none c.loop-piece.invariant.goes

pub returns-clause-places : goal.returns-clause-places
returns-clause-places c =
    let none : rest c.args.text.now c.loop-piece.at ≡ [] = subst (λ (t : List ℕ). rest t c.loop-piece.at ≡ []) c.as_bytes.ensures.value c.in_default.ensures in
    c.from_vec-2.ensures ∙ ended_places _ _ _ c.args.text.now c.loop-piece.at c.loop-piece.context c.loop-piece.spaced none c.loop-piece.invariant.goes

pub returns-clause-faults : goal.returns-clause-faults
returns-clause-faults c =
    let none : rest c.args.text.now c.loop-piece.at ≡ [] = subst (λ (t : List ℕ). rest t c.loop-piece.at ≡ []) c.as_bytes.ensures.value c.in_default.ensures in
    c.from_vec-3.ensures ∙ ended_faults _ _ _ c.args.text.now c.loop-piece.at c.loop-piece.context c.loop-piece.spaced none c.loop-piece.invariant.goes

pub returns-clause-paired : goal.returns-clause-paired
returns-clause-paired c =
    let none : rest c.args.text.now c.loop-piece.at ≡ [] = subst (λ (t : List ℕ). rest t c.loop-piece.at ≡ []) c.as_bytes.ensures.value c.in_default.ensures in
    let tokens = c.from_vec.ensures ∙ ended_tokens _ _ _ c.args.text.now c.loop-piece.at c.loop-piece.context c.loop-piece.spaced none c.loop-piece.invariant.goes in
    let places = c.from_vec-2.ensures ∙ ended_places _ _ _ c.args.text.now c.loop-piece.at c.loop-piece.context c.loop-piece.spaced none c.loop-piece.invariant.goes in
    ap length tokens ∙ (paired (pieces_of c.args.text.now) ∙ ap length (sym places))

pub returns-clause-place_order : goal.returns-clause-place_order
returns-clause-place_order c =
    subst (λ (rs : List (ℕ × ℕ)). InOrder c.args.text.now 0 (length c.args.text.now) rs) (sym c.from_vec-2.ensures)
    (order_further c.args.text.now 0 c.loop-piece.at (length c.args.text.now) c.loop-piece.found.places.items c.loop-piece.invariant.within c.loop-piece.invariant.place_order)

pub returns-clause-fault_order : goal.returns-clause-fault_order
returns-clause-fault_order c =
    subst (λ (fs : List LexFault). InOrder c.args.text.now 0 (length c.args.text.now) (ranges fs)) (sym c.from_vec-3.ensures)
    (order_further c.args.text.now 0 c.loop-piece.at (length c.args.text.now) (ranges c.loop-piece.found.faults.items) c.loop-piece.invariant.within c.loop-piece.invariant.fault_order)

pub returns-clause-numbered : goal.returns-clause-numbered
returns-clause-numbered c =
    let none : rest c.args.text.now c.loop-piece.at ≡ [] = subst (λ (t : List ℕ). rest t c.loop-piece.at ≡ []) c.as_bytes.ensures.value c.in_default.ensures in
    let tokens = c.from_vec.ensures ∙ ended_tokens _ _ _ c.args.text.now c.loop-piece.at c.loop-piece.context c.loop-piece.spaced none c.loop-piece.invariant.goes in
    let faults = c.from_vec-3.ensures ∙ ended_faults _ _ _ c.args.text.now c.loop-piece.at c.loop-piece.context c.loop-piece.spaced none c.loop-piece.invariant.goes in
    rw (tokens, faults) (numbered_faults c.args.text.now)
