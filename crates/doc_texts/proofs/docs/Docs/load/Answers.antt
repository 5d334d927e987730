use Rattle.std.proofs.Common.{arith, ◌<◌, ◌≤◌, length, subst, sym, refl, ap, ◌∙◌, Ok, option_map}
use Rattle.doc_texts.specs.Docs.{loaded, fits}
use Rattle.doc_texts.specs.Limits.{longest_text}
use Rattle.doc_texts.specs.Texts.{with_disk}
use Rattle.doc_texts.proofs.Meant.{done_at, load_outside, load_none, load_no_text, load_long, load_text}
use Rattle.doc_texts.proofs.docs.Docs.load.Goals as goal

pub returns-then-is_outside : goal.returns-then-is_outside
returns-then-is_outside c = ((λ _. load_outside c.args.self.now c.args.path.now _ (sym c.if-is_outside.ensures)), refl)

pub returns-in_default : goal.returns-in_default
returns-in_default c =
    ap (λ bytes. loaded c.args.self.now c.args.path.now (option_map (λ bytes. bytes.now) bytes)) c.in_default.is
    ∙ load_none c.args.self.now c.args.path.now (sym c.if-is_outside.ensures)
    ∙ ap Ok (sym c.drop_disk.ensures)

pub returns-in_default-from_utf8 : goal.returns-in_default-from_utf8
returns-in_default-from_utf8 c =
    ((λ _. ap (λ bytes. loaded c.args.self.now c.args.path.now (option_map (λ bytes. bytes.now) bytes)) c.in-Some.is ∙ load_no_text c.args.self.now c.args.path.now c.in-Some.bytes.now (sym c.if-is_outside.ensures) c.in_default-from_utf8.ensures.cases.0), refl)

pub returns-then-text-gt-LONGEST_TEXT : goal.returns-then-text-gt-LONGEST_TEXT
returns-then-text-gt-LONGEST_TEXT c =
    let same = c.in-Ok.ensures.cases.0 in
    ((λ _. ap (λ bytes. loaded c.args.self.now c.args.path.now (option_map (λ bytes. bytes.now) bytes)) c.in-Some.is ∙ load_long c.args.self.now c.args.path.now c.in-Some.bytes.now (sym c.if-is_outside.ensures) c.in-Ok.ensures.cases.1 (subst (λ text. longest_text < length text) same c.if-text-gt-LONGEST_TEXT.true)), refl)

pub returns : goal.returns
returns c =
    let same = c.in-Ok.ensures.cases.0 in
    let short = subst (λ text. length text ≤ longest_text) same (omega (arith, c.if-text-gt-LONGEST_TEXT.false)) in
    let meant = load_text c.args.self.now c.args.path.now c.in-Some.bytes.now (sym c.if-is_outside.ensures) c.in-Ok.ensures.cases.1 short in
    done_at _ _ _ (ap (λ bytes. loaded c.args.self.now c.args.path.now (option_map (λ bytes. bytes.now) bytes)) c.in-Some.is ∙ meant ∙ ap (λ text. fits (with_disk c.args.self.now c.args.path.now text)) (sym same)) c.set_disk.ensures
