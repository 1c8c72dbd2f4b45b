-- What accepted commands are answered, read off the rows.
use Rattle.run_laws.proofs.Imports.{arith, ◌≡◌, ℕ, true, List, Option, Some, option_map, unwrap_or, refl, ap, CacheCmd, CacheReply, StrForm, Name16, ConnId, next_reply, replay, Machine, Change, Done, Quiet, What, CacheItem, Content, altered_caches, row_of, row_or_new, new_row, reply_copy, copy_in, reply as answer_to, copy-row_or_new, CacheHistory, content_after, Ask, Reply, AlterCmd, AlterReply, AlterContent}
use Rattle.shell_laws.proofs.Changes.{changed}
use Rattle.cache_model.specs.Commands.Castout as castout
use Rattle.cache_model.specs.Commands.Read as read

-- the cache is asked this
abbrev asked : CacheCmd → What (AlterCmd CacheCmd)
asked cmd = What.Call (Ask.Content (AlterCmd.Inner cmd))

-- an accepted command is answered as the content says
pub answer-content : (form : StrForm) (history : CacheHistory) (by : ConnId) (cmd : CacheCmd) (answer : CacheReply)
    → next_reply altered_caches form history by (Ask.Content (AlterCmd.Inner cmd))
    ≡ Reply.Content (AlterReply.Inner answer)
    → answer ≡ answer_to (content_after form history) by cmd
answer-content form history by cmd answer told = by_change
    (rw told at (changed altered_caches form refl (replay altered_caches form history) by (asked cmd)))
  where
    by_change : {after : Machine (AlterContent Content)} → Change altered_caches form
        (replay altered_caches form history) after by (asked cmd) (Reply.Content (AlterReply.Inner answer))
        → answer ≡ answer_to (content_after form history) by cmd
    by_change (Done command accepted fine e) = grind arith
    by_change (Quiet none move) = absurd cc

copy_of_data : (row : CacheItem) (body : Option (List ℕ))
    → reply_copy (read.data_reply row body) ≡ option_map (λ data'. (data', row.adj)) body
copy_of_data row body = grind arith

-- a READ brings the copy that the rows have
pub copy-read : (rows : List CacheItem) (name : Name16) (stg : ℕ)
    → reply_copy (read.reply rows name stg) ≡ copy_in rows name
copy-read rows name stg = grind (arith, copy_of_data, copy-row_or_new)

-- the row of a name that has one
the_row : (rows : List CacheItem) (name : Name16) (stg : ℕ) (row : CacheItem) → row_of name rows ≡ Some row
    → row_or_new name stg rows ≡ row
the_row rows name stg row there = ap (λ (o : Option CacheItem). unwrap_or o (new_row name stg)) there

read_data : (row : CacheItem) (body : List ℕ) (adj : Option (List ℕ)) (class : ℕ) (found : Option (List ℕ)) → found
    ≡ Some body → row.adj ≡ adj → row.class ≡ Some class → read.data_reply row found ≡ CacheReply.Data body adj true
read_data row body adj class found has same changed = grind arith

-- a READ of a changed row answers its data and adjunct, and that it is changed
pub read-changed : (rows : List CacheItem) (name : Name16) (stg : ℕ) (row : CacheItem) (body : List ℕ)
    (adj : Option (List ℕ)) (class : ℕ) → row_of name rows ≡ Some row → row.body ≡ Some body
    → row.adj ≡ adj → row.class ≡ Some class → read.reply rows name stg ≡ CacheReply.Data body adj true
read-changed rows name stg row body adj class there has same changed = grind (arith, the_row, read_data)

cast_data : (row : CacheItem) (body : List ℕ) (adj : Option (List ℕ)) (found : Option (List ℕ)) → found ≡ Some body
    → row.adj ≡ adj → castout.data_reply row found ≡ CacheReply.CastData body adj
cast_data row body adj found has same = grind arith

-- a CASTOUT answers the row's data and adjunct
pub castout-changed : (rows : List CacheItem) (name : Name16)
    (row : CacheItem) (body : List ℕ) (adj : Option (List ℕ)) → row_of name rows ≡ Some row
    → row.body ≡ Some body → row.adj ≡ adj → castout.reply rows name ≡ CacheReply.CastData body adj
castout-changed rows name row body adj there has same = grind (arith, the_row, cast_data)
