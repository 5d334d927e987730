-- The message of each rule of preprocessing, by the rule's number.
use Rattle.std.specs.Prelude.{ℕ, ◌==◌, ◌||◌, Bool, List, ◌++◌, codes, Option, Some, None, if◌then◌else◌}
use Rattle.fault_texts.specs.Messages.{is_warning as item_warning}

-- what stands in front of the text that a message prints, or the whole message
unfoldable pub front_of : ℕ → List ℕ
front_of rule =
    if rule == 101 then codes "open comment"
    else (if rule == 102 then codes "open literal"
    else (if rule == 103 then codes "stray character"
    else (if rule == 201 then codes "macro "
    else (if rule == 202 then codes "macro "
    else (if rule == 203 then codes "macro "
    else (if rule == 204 then codes "# without a parameter"
    else (if rule == 205 then codes "## at an end"
    else (if rule == 206 then codes "## makes no token"
    else (if rule == 207 then codes "too many replacements"
    else (if rule == 208 then codes ""
    else (if rule == 209 then codes "__VA_ARGS__ out of place"
    else (if rule == 210 then codes "macro parameter "
    else (if rule == 211 then codes "macro "
    else (if rule == 221 then codes "bad directive"
    else (if rule == 222 then codes ""
    else (if rule == 223 then codes "include depth"
    else (if rule == 224 then codes "bad #if expression"
    else (if rule == 225 then codes "no open #if"
    else (if rule == 226 then codes "open #if"
    else (if rule == 227 then codes "#error "
    else (if rule == 228 then codes "too many tokens"
    else codes "extra tokens")))))))))))))))))))))

-- what stands behind that text, where one is printed
unfoldable pub behind_of : ℕ → Option (List ℕ)
behind_of rule =
    if rule == 201 then Some (codes " redefined")
    else (if rule == 202 then Some (codes ": wrong number of arguments")
    else (if rule == 203 then Some (codes ": open argument list")
    else (if rule == 208 then Some (codes " may not be defined")
    else (if rule == 210 then Some (codes " twice")
    else (if rule == 211 then Some (codes ": no variable argument")
    else (if rule == 222 then Some (codes " not found")
    else (if rule == 227 then Some (codes "")
    else None)))))))

abbrev pub round : List ℕ → List ℕ → Option (List ℕ) → List ℕ
round front text None = front
round front text (Some behind) = front ++ (text ++ behind)

abbrev pub message : ℕ → List ℕ → List ℕ
message rule text = round (front_of rule) text (behind_of rule)

-- the rules that a warning is given for, those of items among them; the others are errors
abbrev pub is_warning : ℕ → Bool
is_warning rule = ((rule == 211 || rule == 230) || (rule == 801 || rule == 802)) || item_warning rule
