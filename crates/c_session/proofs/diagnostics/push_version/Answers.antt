use Rattle.std.proofs.Common.{rules, ◌≡◌, string_bytes}
use Rattle.serde_json.specs.Written.{compact_text}
use Rattle.c_session.specs.Ties.Published.{number_data}
use Rattle.c_session.proofs.Publishing.{versioned}
use Rattle.c_session.proofs.diagnostics.push_version.Goals as goal

pub returns-in_ok-push_str-in-Some-2 : goal.returns-in_ok-push_str-in-Some-2
returns-in_ok-push_str-in-Some-2 c =
    let written : string_bytes c.in_ok-version-in-Some.version ≡ compact_text (number_data c.in-Some.version) = search rules in
    versioned (string_bytes c.args.body.now) (string_bytes c.in_ok-version-in-Some.version) c.in-Some.version c.args.version (cc) written (cc (c.in_ok-push_str-in-Some.ensures.bytes, c.in_ok-push_str-in-Some-2.ensures.bytes, c.as_str.ensures.value))
