use Rattle.std.proofs.Common.{sym, refl, arith, w32, to_z-of_z}
use Rattle.doc_texts.proofs.Dropped.{none_is}
use Rattle.doc_texts.proofs.Meant.{done_at, open_outside, open_open, open_long, open_text}
use Rattle.doc_texts.proofs.docs.Docs.open_doc.Goals as goal

pub returns-then-is_outside : goal.returns-then-is_outside
returns-then-is_outside c = ((λ _. open_outside c.args.self.now c.args.path.now c.args.uri.now c.args.version c.args.text.now (sym c.if-is_outside.ensures)), refl)

pub returns-then-is_open : goal.returns-then-is_open
returns-then-is_open c = ((λ _. open_open c.args.self.now c.args.path.now c.args.uri.now c.args.version c.args.text.now (sym c.if-is_outside.ensures) (sym c.if-is_open.ensures)), refl)

pub returns-then-text-gt-LONGEST_TEXT : goal.returns-then-text-gt-LONGEST_TEXT
returns-then-text-gt-LONGEST_TEXT c = ((λ _. open_long c.args.self.now c.args.path.now c.args.uri.now c.args.version c.args.text.now (sym c.if-is_outside.ensures) (sym c.if-is_open.ensures) c.if-text-gt-LONGEST_TEXT.true), refl)

pub add_open-requires-clause-shut : goal.add_open-requires-clause-shut
add_open-requires-clause-shut c = none_is _ (sym c.if-is_open.ensures)

pub returns : goal.returns
returns c =
    let meant = open_text c.args.self.now c.args.path.now c.args.uri.now c.args.version c.args.text.now (sym c.if-is_outside.ensures) (sym c.if-is_open.ensures) (omega (arith, c.if-text-gt-LONGEST_TEXT.false)) _ (to_z-of_z {w = w32} c.ranges.version) in
    done_at _ _ _ meant c.add_open.ensures
