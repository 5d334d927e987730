use Rattle.std.proofs.Common.{ap, sym, ◌∙◌, refl, ◌||◌}
use Rattle.c_parser.specs.Kinds.{is_type_word, is_typedef, is_tagging}
use Rattle.c_parser.proofs.SpecifierLists.{word_found, typedef_hides, no_kind}
use Rattle.c_parser.proofs.Words.{word_specifies, lone_specifies, typedef_by}
use Rattle.c_parser.proofs.type_names.short_specifier.Goals as goal

pub returns-then-typed : goal.returns-then-typed
returns-then-typed c =
    typedef_hides _ _ _ c.requires.short c.requires.bare c.requires.unaligned (ap is_typedef (sym c.in-TypeName.ensures.kind)) c.if-typed.true

pub tagged-requires-clause-kind : goal.tagged-requires-clause-kind
tagged-requires-clause-kind c = ap is_tagging (sym c.in-Tag.ensures.kind)

pub tagged-requires-in-Enum-clause-kind : goal.tagged-requires-in-Enum-clause-kind
tagged-requires-in-Enum-clause-kind c = ap is_tagging (sym c.in-Enum.ensures.kind)

pub returns-in-TypeWord : goal.returns-in-TypeWord
returns-in-TypeWord c =
    let here = sym c.in-TypeWord.ensures.kind in
    word_found
    _
    _
    _
    _
    _
    c.word.ensures
    (word_specifies _ _ _ here refl)
    c.in-TypeWord.ensures.inside
    (ap (λ k. is_type_word k || c.args.typed) (sym here))

pub returns-in-Qualifier : goal.returns-in-Qualifier
returns-in-Qualifier c =
    let here = sym c.in-Qualifier.ensures.kind in
    word_found
    _
    _
    _
    _
    _
    c.word-in-Qualifier.ensures
    (word_specifies _ _ _ here refl)
    c.in-Qualifier.ensures.inside
    (ap (λ k. is_type_word k || c.args.typed) (sym here))

pub returns-in-Atomic : goal.returns-in-Atomic
returns-in-Atomic c =
    let here = sym c.in-Atomic.ensures.kind in
    word_found
    _
    _
    _
    _
    _
    c.word-in-Atomic.ensures
    (lone_specifies _ _ here c.requires.short)
    c.in-Atomic.ensures.inside
    (ap (λ k. is_type_word k || c.args.typed) (sym here))

pub returns-in-Storage : goal.returns-in-Storage
returns-in-Storage c =
    let here = sym c.in-Storage.ensures.kind in
    word_found
    _
    _
    _
    _
    _
    c.word-in-Storage.ensures
    (word_specifies _ _ _ here refl)
    c.in-Storage.ensures.inside
    (ap (λ k. is_type_word k || c.args.typed) (sym here))

pub returns-in-Typedef : goal.returns-in-Typedef
returns-in-Typedef c =
    let here = sym c.in-Typedef.ensures.kind in
    word_found
    _
    _
    _
    _
    _
    c.word-in-Typedef.ensures
    (word_specifies _ _ _ here refl)
    c.in-Typedef.ensures.inside
    (ap (λ k. is_type_word k || c.args.typed) (sym here))

pub returns-in-Static : goal.returns-in-Static
returns-in-Static c =
    let here = sym c.in-Static.ensures.kind in
    word_found
    _
    _
    _
    _
    _
    c.word-in-Static.ensures
    (word_specifies _ _ _ here refl)
    c.in-Static.ensures.inside
    (ap (λ k. is_type_word k || c.args.typed) (sym here))

pub returns-in_default : goal.returns-in_default
returns-in_default c =
    no_kind
    _
    _
    _
    _
    c.requires.short
    c.requires.bare
    c.requires.unaligned
    c.kind_at.ensures.kind
    c.in_default.not-TypeWord
    c.in_default.not-Qualifier
    c.in_default.not-Storage
    c.in_default.not-Typedef
    c.in_default.not-Static
    c.in_default.not-Atomic
    (typedef_by _ c.in_default.not-TypeName)
    c.in_default.not-Tag
    c.in_default.not-Enum
