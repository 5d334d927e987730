use Rattle.std.proofs.Common.{◌≡◌, ◌+◌, ◌++◌, length, rules, ap, ◌∙◌, length-append}
use Rattle.std.specs.Char.{encode_utf8}
use Rattle.std.proofs.lemmas.Str.{chars_past_char, length-encode}
use Rattle.text_lines.proofs.chars.split_first_char.Goals as goal

pub returns-clause-points : goal.returns-clause-points
returns-clause-points c =
    let e : c.args.text.now ≡ encode_utf8 c.in_ok-c.c ++ c.as_str.result.now = search rules in
    chars_past_char _ _ _ c.utf8.text e

pub returns-clause-len : goal.returns-clause-len
returns-clause-len c =
    let e : c.args.text.now ≡ encode_utf8 c.in_ok-c.c ++ c.as_str.result.now = search rules in
    ap length e ∙ length-append (encode_utf8 c.in_ok-c.c) _ ∙ ap (λ n. n + length c.as_str.result.now) (length-encode c.in_ok-c.c)
