-- The message for an invalid argument.
use Rattle.std.specs.Prelude.{List, ℕ, codes}
use Rattle.registry_commands.specs.declared.arguments.BadArgument.{BadArgument}
use Rattle.registry_commands.specs.declared.arguments.BadArgument.TheVariants.{Stamp, Name, Vid, Pid, Caller, Key, Org, Vendor}

abbrev pub bad_argument_line : BadArgument → List ℕ
bad_argument_line Stamp = codes "bad word: stamp\n"
bad_argument_line Name = codes "bad word: name\n"
bad_argument_line Vid = codes "bad word: vid\n"
bad_argument_line Pid = codes "bad word: pid\n"
bad_argument_line Caller = codes "bad word: caller\n"
bad_argument_line Key = codes "bad word: key\n"
bad_argument_line Org = codes "bad word: org\n"
bad_argument_line Vendor = codes "bad word: vendor\n"
