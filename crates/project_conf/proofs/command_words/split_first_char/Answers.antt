use Rattle.std.proofs.Common.{◌≡◌, ◌+◌, ◌++◌, length, rules, arith, ap, ◌∙◌, length-append}
use Rattle.std.specs.Char.{encode_utf8, len_utf8}
use Rattle.std.proofs.lemmas.Str.{chars_past_char, length-encode, len_utf8_bounds}
use Rattle.project_conf.proofs.command_words.split_first_char.Goals as goal

pub returns-clause-points : goal.returns-clause-points
returns-clause-points c =
    let e : c.args.text.now ≡ encode_utf8 c.in_ok-c.c ++ c.as_str.result.now = search rules in
    chars_past_char _ _ _ c.utf8.text e

pub returns-clause-shorter : goal.returns-clause-shorter
returns-clause-shorter c =
    let e : c.args.text.now ≡ encode_utf8 c.in_ok-c.c ++ c.as_str.result.now = search rules in
    let sum : length c.args.text.now ≡ len_utf8 c.in_ok-c.c + length c.as_str.result.now =
    ap length e ∙ length-append (encode_utf8 c.in_ok-c.c) _ ∙ ap (λ n. n + length c.as_str.result.now) (length-encode c.in_ok-c.c) in
    let some = (len_utf8_bounds c.in_ok-c.c).0 in
    omega arith
