use Rattle.std.proofs.Common.{sym, ap, ◌∙◌}
use Rattle.elab_state.specs.Seen.{context_of}
use Rattle.elab_core.specs.Declarations.{tag_of}
use Rattle.elab_core.proofs.Layers.{specifier_aligned, specifier_aligned_as, specifier_atomic, specifier_enumerators, specifier_members, specifier_tag, specifier_typedef_name, specifier_word}
use Rattle.elab_core.proofs.Headings.{no_tag}
use Rattle.elab_core.proofs.declarations.tag_of.Goals as goal

pub returns-in-Tag : goal.returns-in-Tag
returns-in-Tag c =
    c.holds_alone.ensures ∙ sym (ap (tag_of (context_of c.args.around.now)) (specifier_tag c.args.specifier.now c.in-Tag.keyword c.in-Tag.at c.in-Tag.is))

pub returns-in-Word : goal.returns-in-Word
returns-in-Word c =
    sym (ap (tag_of (context_of c.args.around.now)) (specifier_word c.args.specifier.now c.in-Word.field-0 c.in-Word.is))

pub returns-in-TypedefName : goal.returns-in-TypedefName
returns-in-TypedefName c =
    sym (ap (tag_of (context_of c.args.around.now)) (specifier_typedef_name c.args.specifier.now c.in-TypedefName.field-0 c.in-TypedefName.is))

pub returns-in-Atomic : goal.returns-in-Atomic
returns-in-Atomic c =
    sym (ap (tag_of (context_of c.args.around.now)) (specifier_atomic c.args.specifier.now c.in-Atomic.field-0 c.in-Atomic.field-1 c.in-Atomic.field-2 c.in-Atomic.field-3 c.in-Atomic.is))

pub returns-in-AlignedAs : goal.returns-in-AlignedAs
returns-in-AlignedAs c =
    sym (ap (tag_of (context_of c.args.around.now)) (specifier_aligned_as c.args.specifier.now c.in-AlignedAs.field-0 c.in-AlignedAs.field-1 c.in-AlignedAs.field-2 c.in-AlignedAs.field-3 c.in-AlignedAs.is))

pub returns-in-Aligned : goal.returns-in-Aligned
returns-in-Aligned c =
    sym (ap (tag_of (context_of c.args.around.now)) (specifier_aligned c.args.specifier.now c.in-Aligned.field-0 c.in-Aligned.field-1 c.in-Aligned.field-2 c.in-Aligned.field-3 c.in-Aligned.is))

pub returns-in-Members : goal.returns-in-Members
returns-in-Members c =
    sym (ap (tag_of (context_of c.args.around.now)) (specifier_members c.args.specifier.now c.in-Members.field-0 c.in-Members.field-1 c.in-Members.field-2 c.in-Members.field-3 c.in-Members.field-4 c.in-Members.is))

pub returns-in-Enumerators : goal.returns-in-Enumerators
returns-in-Enumerators c =
    sym (ap (tag_of (context_of c.args.around.now)) (specifier_enumerators c.args.specifier.now c.in-Enumerators.field-0 c.in-Enumerators.is) ∙ no_tag (context_of c.args.around.now) c.in-Enumerators.field-0.value)
