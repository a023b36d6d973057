-- Classes and types.
use Rattle.qil_tree.specs.declared.ops.Class.{Class}
use Rattle.qil_tree.specs.declared.ops.Class.TheVariants as classes
use Rattle.qil_tree.specs.declared.ops.AbiType.{AbiType}
use Rattle.qil_tree.specs.declared.ops.AbiType.TheVariants as types

-- the type that is a class
abbrev pub type_of : Class → AbiType
type_of classes.W = types.W
type_of classes.L = types.L

-- the class of a temporary of a type: a part of a word lies in a word
abbrev pub class_of : AbiType → Class
class_of types.L = classes.L
class_of _ = classes.W
