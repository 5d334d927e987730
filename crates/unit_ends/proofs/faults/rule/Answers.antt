use Rattle.std.proofs.Common.{rules, ◌≡◌, ◌&&◌, ap, sym, ◌∙◌, true, false}
use Rattle.unit_ends.specs.Ends.{defines, stated_before}
use Rattle.unit_ends.proofs.WalkLemmas.{at_first, at_later, both_true, one_false}
use Rattle.unit_ends.proofs.faults.rule.Goals as goal
use Rattle.unit_ends.proofs.faults.rule.Goals.{else-defines-via-then-defines+else-has_defined, else-defines-via-else-defines}

pub returns-then-not-has_stated : goal.returns-then-not-has_stated
returns-then-not-has_stated c = λ front before passed.
    let none : c.has_stated.result ≡ false = search rules in
    c.rule_at_first.ensures ∙ sym (at_first c.args.index.now front before c.args.stated.now (sym (c.has_stated.ensures front before passed) ∙ none))

pub returns-then-has_defined : goal.returns-then-has_defined
returns-then-has_defined c = λ front before passed.
    let some : c.has_stated.result ≡ true = search rules in
    let here : c.defines.result ≡ true = search rules in
    let there : c.has_defined.result ≡ true = search rules in
    sym (at_later c.args.index.now front before c.args.stated.now true (sym (c.has_stated.ensures front before passed) ∙ some)
    (both_true (stated_before defines c.args.stated.now.name front before) (sym c.defines.ensures ∙ here) (sym (c.has_defined.ensures front before passed) ∙ there)))

pub returns : goal.returns
returns c = λ front before passed.
    let some : c.has_stated.result ≡ true = search rules in
    sym (at_later c.args.index.now front before c.args.stated.now false (sym (c.has_stated.ensures front before passed) ∙ some)
    (elim c.else-defines.branch [
      | else-defines-via-then-defines+else-has_defined w ↦
          let none : w.has_defined.result ≡ false = search rules in
          one_false (defines c.args.stated.now.how) (sym (w.has_defined.ensures front before passed) ∙ none)
      | else-defines-via-else-defines w ↦
          let none : c.defines.result ≡ false = search rules in
          ap (λ b. b && stated_before defines c.args.stated.now.name front before) (sym c.defines.ensures ∙ none)
    ]))
