-- What the parts of a head stand for.
use Rattle.std.proofs.Common.{◌≡◌, ap, None}
use Rattle.tree_data.specs.declared.members.Assertion.{Assertion, out-Assertion}
use Rattle.tree_data.specs.declared.members.Enumeration.{Enumeration}
use Rattle.tree_data.specs.Seen.{assertion_of, enumeration_of}
use Rattle.elab_state.specs.Contexts.{Context}
use Rattle.elab_core.specs.Declarations.{keyword, tag_of}
use Rattle.elab_core.proofs.Layers.{assertion_is, enumeration_is}

pub keyword_is : (a : Assertion) → keyword (assertion_of a) ≡ (out-Assertion a).keyword
keyword_is a = ap keyword (assertion_is a)

pub no_tag : (c : Context) → (e : Enumeration) → tag_of c (enumeration_of e) ≡ None
no_tag c e = ap (tag_of c) (enumeration_is e)
