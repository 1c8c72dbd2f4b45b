-- What is read as a command of a list with event queues is spelled so, and what is spelled so is read.
use Rattle.plex_spell.proofs.Imports.{arith, lit<, codes, ◌≡◌, true, List, Some, inr, QueueCmd, queue_tokens, IsQueueLine, queue_at, queue_forms, list_forms, Rigour, Declared, Token, Spells, IsSaid}
use Rattle.cf_types.specs.declared.list_commands.QueueCmd.TheVariants as queue
use Rattle.plex_spell.proofs.FormLaws.{AreForms, AllSay, each-says, says, forms-sound, forms-complete, still-lacks, are-made, said-made, all-say-made}
use Rattle.plex_spell.proofs.ListLaws.{are_list, list-said}
use Rattle.plex_spell.proofs.{VerbLaws.is_tail, PlaceLaws.Words, PlaceLaws.FindsAll}

-- a line says the command, and the tokens are its own
record IsLine (cmd : QueueCmd) (tokens : List Token) : Type 0 where
  is_line : IsQueueLine cmd
  are : tokens ≡ queue_tokens cmd

pub record QueueTold (rigour : Rigour) (declared : Declared) (ws rest : Words) (cmd : QueueCmd) : Type 0 where
  pub is_line : IsQueueLine cmd
  pub spelled : Spells rigour declared (queue_tokens cmd) ws rest

are_queue : AreForms queue_forms
are_queue = grind (arith, lit<, are-made, still-lacks, are_list)

say_records : AllSay list_forms (λ cmd tokens. IsLine (queue.List cmd) tokens)
say_records = grind arith

say_queue : AllSay queue_forms IsLine
say_queue = grind (arith, all-say-made, say_records)

queue-said : (cmd : QueueCmd) → IsQueueLine cmd → IsSaid queue_forms cmd (queue_tokens cmd)
queue-said (queue.List cmd) is =
    inr (inr (inr (said-made queue.List list_forms cmd (queue_tokens (queue.List cmd)) (list-said cmd is))))
queue-said (queue.MonSub header key) is = says queue_forms (codes "MONSUB") (header, (key, tt))
queue-said (queue.UnmonSub header key) is = says queue_forms (codes "UNMONSUB") (header, (key, tt))
queue-said queue.Deq is = says queue_forms (codes "DEQ") tt

module _ (rigour : Rigour) (declared : Declared) where
  pub queue-sound : (ws rest : Words) (cmd : QueueCmd) → queue_at rigour declared ws ≡ Some (cmd, rest)
      → QueueTold rigour declared ws rest cmd
  queue-sound ws rest cmd h =
      let t = forms-sound rigour declared queue_forms ws rest cmd are_queue h in
      let l = each-says queue_forms IsLine cmd t.tokens say_queue t.said in
      record { is_line = l.is_line; spelled = rw (← l.are) t.spelled }

  pub queue-complete : (ws rest : Words) (cmd : QueueCmd) → is_tail rest ≡ true → IsQueueLine cmd
      → Spells rigour declared (queue_tokens cmd) ws rest → FindsAll rigour (queue_at rigour declared ws) cmd rest
  queue-complete ws rest cmd tail is h = forms-complete rigour declared queue_forms cmd (queue_tokens cmd) ws rest
      are_queue tail (queue-said cmd is) h
