-- What a declarator declares (ISO C11 6.7): a typedef name, a parameter, a function or an object.
use Rattle.std.specs.Prelude.{Bool, true, false, ◌&&◌, not}
use Rattle.scope_tables.specs.declared.entities.ScopeKind.{ScopeKind}
use Rattle.scope_tables.specs.declared.entities.ScopeKind.TheVariants as scope
use Rattle.type_data.specs.Types.{Ty, Function_of}
use Rattle.decl_rules.specs.declared.parts.Storage.{Storage}
use Rattle.decl_rules.specs.declared.parts.Storage.TheVariants as storage
use Rattle.decl_rules.specs.declared.parts.DeclParts.{DeclParts}

abbrev pub is_typedef : Storage → Bool
is_typedef storage.Typedef = true
is_typedef s = false

abbrev pub is_register : Storage → Bool
is_register storage.Register = true
is_register s = false

abbrev pub is_extern : Storage → Bool
is_extern storage.Extern = true
is_extern s = false

abbrev pub is_static : Storage → Bool
is_static storage.Static = true
is_static s = false

abbrev pub is_file : ScopeKind → Bool
is_file scope.File = true
is_file k = false

abbrev pub is_parameter : ScopeKind → Bool
is_parameter scope.Prototype = true
is_parameter k = false

abbrev pub is_function_type : Ty → Bool
is_function_type (Function_of t ps p) = true
is_function_type t = false

-- what has a function type and is no typedef name is a function
abbrev pub is_function : DeclParts → Bool
is_function d = is_function_type d.ty && not (is_typedef d.storage)

-- an object, but no parameter
abbrev pub is_object : DeclParts → Bool
is_object d = not (is_function_type d.ty) && not (is_typedef d.storage) && not (is_parameter d.scope)
