use Rattle.std.proofs.Common.{ap, refl, ◌∙◌, [], ◌∷◌, bytes_eq, codes}
use Rattle.std.specs.List.{list_any}
use Rattle.tok_data.specs.Keywords.{is_keyword, keywords}
use Rattle.tok_data.proofs.FirstBytes.{behind, behind_none}
use Rattle.tok_data.proofs.keywords.is_one_in.Goals as goal

pub returns-in-95 : goal.returns-in-95
unfolding is_keyword keywords
returns-in-95 c =
    c.is_among.ensures
    ∙ ap (list_any (λ word. bytes_eq word.now c.args.text.now)) c.as_slice.ensures
    ∙ behind (codes "_Alignas" ∷ codes "_Alignof" ∷ codes "_Atomic" ∷ codes "_Bool" ∷ codes "_Complex" ∷ codes "_Generic" ∷ codes "_Imaginary" ∷ codes "_Noreturn" ∷ codes "_Static_assert" ∷ codes "_Thread_local" ∷ codes "__offsetof" ∷ []) 95 c.args._rest.now c.args.text.now (c.requires ∙ ap (λ b. b ∷ c.args._rest.now) c.in-95.is) refl

pub returns-in-97 : goal.returns-in-97
unfolding is_keyword keywords
returns-in-97 c =
    c.is_among-in-97.ensures
    ∙ ap (list_any (λ word. bytes_eq word.now c.args.text.now)) c.as_slice-in-97.ensures
    ∙ behind (codes "auto" ∷ []) 97 c.args._rest.now c.args.text.now (c.requires ∙ ap (λ b. b ∷ c.args._rest.now) c.in-97.is) refl

pub returns-in-98 : goal.returns-in-98
unfolding is_keyword keywords
returns-in-98 c =
    c.is_among-in-98.ensures
    ∙ ap (list_any (λ word. bytes_eq word.now c.args.text.now)) c.as_slice-in-98.ensures
    ∙ behind (codes "break" ∷ []) 98 c.args._rest.now c.args.text.now (c.requires ∙ ap (λ b. b ∷ c.args._rest.now) c.in-98.is) refl

pub returns-in-99 : goal.returns-in-99
unfolding is_keyword keywords
returns-in-99 c =
    c.is_among-in-99.ensures
    ∙ ap (list_any (λ word. bytes_eq word.now c.args.text.now)) c.as_slice-in-99.ensures
    ∙ behind (codes "case" ∷ codes "char" ∷ codes "const" ∷ codes "continue" ∷ []) 99 c.args._rest.now c.args.text.now (c.requires ∙ ap (λ b. b ∷ c.args._rest.now) c.in-99.is) refl

pub returns-in-100 : goal.returns-in-100
unfolding is_keyword keywords
returns-in-100 c =
    c.is_among-in-100.ensures
    ∙ ap (list_any (λ word. bytes_eq word.now c.args.text.now)) c.as_slice-in-100.ensures
    ∙ behind (codes "default" ∷ codes "do" ∷ codes "double" ∷ []) 100 c.args._rest.now c.args.text.now (c.requires ∙ ap (λ b. b ∷ c.args._rest.now) c.in-100.is) refl

pub returns-in-101 : goal.returns-in-101
unfolding is_keyword keywords
returns-in-101 c =
    c.is_among-in-101.ensures
    ∙ ap (list_any (λ word. bytes_eq word.now c.args.text.now)) c.as_slice-in-101.ensures
    ∙ behind (codes "else" ∷ codes "enum" ∷ codes "extern" ∷ []) 101 c.args._rest.now c.args.text.now (c.requires ∙ ap (λ b. b ∷ c.args._rest.now) c.in-101.is) refl

pub returns-in-102 : goal.returns-in-102
unfolding is_keyword keywords
returns-in-102 c =
    c.is_among-in-102.ensures
    ∙ ap (list_any (λ word. bytes_eq word.now c.args.text.now)) c.as_slice-in-102.ensures
    ∙ behind (codes "float" ∷ codes "for" ∷ []) 102 c.args._rest.now c.args.text.now (c.requires ∙ ap (λ b. b ∷ c.args._rest.now) c.in-102.is) refl

pub returns-in-103 : goal.returns-in-103
unfolding is_keyword keywords
returns-in-103 c =
    c.is_among-in-103.ensures
    ∙ ap (list_any (λ word. bytes_eq word.now c.args.text.now)) c.as_slice-in-103.ensures
    ∙ behind (codes "goto" ∷ []) 103 c.args._rest.now c.args.text.now (c.requires ∙ ap (λ b. b ∷ c.args._rest.now) c.in-103.is) refl

pub returns-in-104 : goal.returns-in-104
unfolding is_keyword keywords
returns-in-104 c = behind_none 104 c.args._rest.now c.args.text.now (c.requires ∙ ap (λ b. b ∷ c.args._rest.now) c.in-104.is) refl

pub returns-in-105 : goal.returns-in-105
unfolding is_keyword keywords
returns-in-105 c =
    c.is_among-in-105.ensures
    ∙ ap (list_any (λ word. bytes_eq word.now c.args.text.now)) c.as_slice-in-105.ensures
    ∙ behind (codes "if" ∷ codes "inline" ∷ codes "int" ∷ []) 105 c.args._rest.now c.args.text.now (c.requires ∙ ap (λ b. b ∷ c.args._rest.now) c.in-105.is) refl

pub returns-in-106 : goal.returns-in-106
unfolding is_keyword keywords
returns-in-106 c = behind_none 106 c.args._rest.now c.args.text.now (c.requires ∙ ap (λ b. b ∷ c.args._rest.now) c.in-106.is) refl

pub returns-in-107 : goal.returns-in-107
unfolding is_keyword keywords
returns-in-107 c = behind_none 107 c.args._rest.now c.args.text.now (c.requires ∙ ap (λ b. b ∷ c.args._rest.now) c.in-107.is) refl

pub returns-in-108 : goal.returns-in-108
unfolding is_keyword keywords
returns-in-108 c =
    c.is_among-in-108.ensures
    ∙ ap (list_any (λ word. bytes_eq word.now c.args.text.now)) c.as_slice-in-108.ensures
    ∙ behind (codes "long" ∷ []) 108 c.args._rest.now c.args.text.now (c.requires ∙ ap (λ b. b ∷ c.args._rest.now) c.in-108.is) refl

pub returns-in-109 : goal.returns-in-109
unfolding is_keyword keywords
returns-in-109 c = behind_none 109 c.args._rest.now c.args.text.now (c.requires ∙ ap (λ b. b ∷ c.args._rest.now) c.in-109.is) refl

pub returns-in-110 : goal.returns-in-110
unfolding is_keyword keywords
returns-in-110 c = behind_none 110 c.args._rest.now c.args.text.now (c.requires ∙ ap (λ b. b ∷ c.args._rest.now) c.in-110.is) refl

pub returns-in-111 : goal.returns-in-111
unfolding is_keyword keywords
returns-in-111 c = behind_none 111 c.args._rest.now c.args.text.now (c.requires ∙ ap (λ b. b ∷ c.args._rest.now) c.in-111.is) refl

pub returns-in-112 : goal.returns-in-112
unfolding is_keyword keywords
returns-in-112 c = behind_none 112 c.args._rest.now c.args.text.now (c.requires ∙ ap (λ b. b ∷ c.args._rest.now) c.in-112.is) refl

pub returns-in-113 : goal.returns-in-113
unfolding is_keyword keywords
returns-in-113 c = behind_none 113 c.args._rest.now c.args.text.now (c.requires ∙ ap (λ b. b ∷ c.args._rest.now) c.in-113.is) refl

pub returns-in-114 : goal.returns-in-114
unfolding is_keyword keywords
returns-in-114 c =
    c.is_among-in-114.ensures
    ∙ ap (list_any (λ word. bytes_eq word.now c.args.text.now)) c.as_slice-in-114.ensures
    ∙ behind (codes "register" ∷ codes "restrict" ∷ codes "return" ∷ []) 114 c.args._rest.now c.args.text.now (c.requires ∙ ap (λ b. b ∷ c.args._rest.now) c.in-114.is) refl

pub returns-in-115 : goal.returns-in-115
unfolding is_keyword keywords
returns-in-115 c =
    c.is_among-in-115.ensures
    ∙ ap (list_any (λ word. bytes_eq word.now c.args.text.now)) c.as_slice-in-115.ensures
    ∙ behind (codes "short" ∷ codes "signed" ∷ codes "sizeof" ∷ codes "static" ∷ codes "struct" ∷ codes "switch" ∷ []) 115 c.args._rest.now c.args.text.now (c.requires ∙ ap (λ b. b ∷ c.args._rest.now) c.in-115.is) refl

pub returns-in-116 : goal.returns-in-116
unfolding is_keyword keywords
returns-in-116 c =
    c.is_among-in-116.ensures
    ∙ ap (list_any (λ word. bytes_eq word.now c.args.text.now)) c.as_slice-in-116.ensures
    ∙ behind (codes "typedef" ∷ []) 116 c.args._rest.now c.args.text.now (c.requires ∙ ap (λ b. b ∷ c.args._rest.now) c.in-116.is) refl

pub returns-in-117 : goal.returns-in-117
unfolding is_keyword keywords
returns-in-117 c =
    c.is_among-in-117.ensures
    ∙ ap (list_any (λ word. bytes_eq word.now c.args.text.now)) c.as_slice-in-117.ensures
    ∙ behind (codes "union" ∷ codes "unsigned" ∷ []) 117 c.args._rest.now c.args.text.now (c.requires ∙ ap (λ b. b ∷ c.args._rest.now) c.in-117.is) refl

pub returns-in-118 : goal.returns-in-118
unfolding is_keyword keywords
returns-in-118 c =
    c.is_among-in-118.ensures
    ∙ ap (list_any (λ word. bytes_eq word.now c.args.text.now)) c.as_slice-in-118.ensures
    ∙ behind (codes "void" ∷ codes "volatile" ∷ []) 118 c.args._rest.now c.args.text.now (c.requires ∙ ap (λ b. b ∷ c.args._rest.now) c.in-118.is) refl

pub returns-in-119 : goal.returns-in-119
unfolding is_keyword keywords
returns-in-119 c =
    c.is_among-in-119.ensures
    ∙ ap (list_any (λ word. bytes_eq word.now c.args.text.now)) c.as_slice-in-119.ensures
    ∙ behind (codes "while" ∷ []) 119 c.args._rest.now c.args.text.now (c.requires ∙ ap (λ b. b ∷ c.args._rest.now) c.in-119.is) refl

pub returns-in-120 : goal.returns-in-120
unfolding is_keyword keywords
returns-in-120 c = behind_none 120 c.args._rest.now c.args.text.now (c.requires ∙ ap (λ b. b ∷ c.args._rest.now) c.in-120.is) refl

pub returns-in-121 : goal.returns-in-121
unfolding is_keyword keywords
returns-in-121 c = behind_none 121 c.args._rest.now c.args.text.now (c.requires ∙ ap (λ b. b ∷ c.args._rest.now) c.in-121.is) refl

pub returns-in-122 : goal.returns-in-122
unfolding is_keyword keywords
returns-in-122 c = behind_none 122 c.args._rest.now c.args.text.now (c.requires ∙ ap (λ b. b ∷ c.args._rest.now) c.in-122.is) refl

pub returns-in_default : goal.returns-in_default
unfolding is_keyword keywords
returns-in_default c =
    c.is_among-in_default.ensures
    ∙ ap (list_any (λ word. bytes_eq word.now c.args.text.now)) c.as_slice-in_default.ensures
