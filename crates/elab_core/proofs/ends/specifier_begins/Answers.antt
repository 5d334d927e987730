use Rattle.std.proofs.Common.{sym, ap, ◌∙◌}
use Rattle.tree_data.specs.Seen.{enumeration_of}
use Rattle.elab_core.specs.Ends.{specifying_begins}
use Rattle.elab_core.proofs.Layers.{specifier_aligned, specifier_aligned_as, specifier_atomic, specifier_enumerators, specifier_members, specifier_tag, specifier_typedef_name, specifier_word}
use Rattle.elab_core.proofs.ends.specifier_begins.Goals as goal

pub returns-in-Word : goal.returns-in-Word
returns-in-Word c = sym (ap specifying_begins (specifier_word c.args.specifier.now c.in-Word.at c.in-Word.is))

pub returns-in-TypedefName : goal.returns-in-TypedefName
returns-in-TypedefName c = sym (ap specifying_begins (specifier_typedef_name c.args.specifier.now c.in-TypedefName.at c.in-TypedefName.is))

pub returns-in-Tag : goal.returns-in-Tag
returns-in-Tag c = sym (ap specifying_begins (specifier_tag c.args.specifier.now c.in-Tag.keyword c.in-Tag.field-1 c.in-Tag.is))

pub returns-in-Atomic : goal.returns-in-Atomic
returns-in-Atomic c = sym (ap specifying_begins (specifier_atomic c.args.specifier.now c.in-Atomic.keyword c.in-Atomic.field-1 c.in-Atomic.field-2 c.in-Atomic.field-3 c.in-Atomic.is))

pub returns-in-AlignedAs : goal.returns-in-AlignedAs
returns-in-AlignedAs c = sym (ap specifying_begins (specifier_aligned_as c.args.specifier.now c.in-AlignedAs.keyword c.in-AlignedAs.field-1 c.in-AlignedAs.field-2 c.in-AlignedAs.field-3 c.in-AlignedAs.is))

pub returns-in-Aligned : goal.returns-in-Aligned
returns-in-Aligned c = sym (ap specifying_begins (specifier_aligned c.args.specifier.now c.in-Aligned.keyword c.in-Aligned.field-1 c.in-Aligned.field-2 c.in-Aligned.field-3 c.in-Aligned.is))

pub returns-in-Members : goal.returns-in-Members
returns-in-Members c = sym (ap specifying_begins (specifier_members c.args.specifier.now c.in-Members.keyword c.in-Members.field-1 c.in-Members.field-2 c.in-Members.field-3 c.in-Members.field-4 c.in-Members.is))

pub returns-in-Enumerators : goal.returns-in-Enumerators
returns-in-Enumerators c =
    c.enumeration_begins.ensures ∙ ap (λ x. specifying_begins (enumeration_of x)) c.deref.ensures ∙ sym (ap specifying_begins (specifier_enumerators c.args.specifier.now c.in-Enumerators.list c.in-Enumerators.is))
