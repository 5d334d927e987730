use Rattle.std.proofs.Common.{lit<, None}
use Rattle.std.proofs.lemmas.Str.Pattern.{strip_prefix_char}
use Rattle.include_units.proofs.HeaderLemmas.{header_none}
use Rattle.include_units.proofs.inclusion.header_name.Goals as goal

pub returns : goal.returns
returns c =
    header_none c.args.text.now
    (strip_prefix_char 60 c.args.text.now None c.in_default.ensures.cases (lit< tt))
    (strip_prefix_char 34 c.args.text.now None c.in_default-strip_prefix.ensures.cases (lit< tt))
