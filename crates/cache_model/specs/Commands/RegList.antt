-- REGLIST: the caller's registrations, by index.
use Rattle.std.specs.Prelude.{List, map}
use Rattle.cf_types.specs.declared.numbers.ConnId.{ConnId}
use Rattle.cf_types.specs.declared.cache_commands.CacheReply.{CacheReply}
use Rattle.cf_types.specs.declared.cache_commands.CacheReply.TheVariants as replies
use Rattle.cache_regs.specs.declared.registrations.Registration.{Registration}
use Rattle.cache_regs.specs.Registrations.{regs_of}

abbrev pub reply : List Registration → ConnId → CacheReply
reply regs by = replies.Regs (map (λ reg. (reg.index, reg.name)) (regs_of by regs))
