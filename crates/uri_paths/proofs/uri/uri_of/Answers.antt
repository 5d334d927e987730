use Rattle.std.proofs.Common.{◌∙◌, ap}
use Rattle.percent_encoding.specs.Percent.{percent_encode}
use Rattle.uri_paths.specs.declared.uri.TheConstants.{ESCAPED}
use Rattle.uri_paths.proofs.Escapes.{written}
use Rattle.uri_paths.proofs.uri.uri_of.Goals as goal

pub returns : goal.returns
returns c = written c.args.path.now _ _ _ c.in_ok-uri.ensures.ok (c.utf8_percent_encode.ensures.text ∙ ap (percent_encode ESCAPED) c.as_str.ensures.text) c.in_ok-append_to.ensures.ok
