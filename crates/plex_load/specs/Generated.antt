-- The script that a number makes: four connectors at one cache structure, each with 1,000 lines behind its CONNECT.
use Rattle.std.specs.Prelude.{ℕ, ◌+◌, ◌*◌, ◌/◌, ◌%◌, ◌==◌, zero, suc, false, if◌then◌else◌, List, [], ◌∷◌, ◌++◌, map, None, Some, codes}
use Rattle.std.specs.Fmt.{decimal}
use Rattle.std.specs.List.{flat_map, range_with_len}
use Rattle.plex_script.specs.CfTypes.declared.alter_commands.AlterCmd.TheVariants as alter
use Rattle.plex_script.specs.CfTypes.declared.cache_commands.CacheCmd.{CacheCmd}
use Rattle.plex_script.specs.CfTypes.declared.cache_commands.CacheCmd.TheVariants as cache
use Rattle.plex_script.specs.CfTypes.declared.forms.Kind.TheVariants as kind
use Rattle.plex_script.specs.CfTypes.declared.forms.Pref.{Pref}
use Rattle.plex_script.specs.CfTypes.declared.forms.StrForm.{StrForm}
use Rattle.plex_script.specs.CfTypes.declared.names.Name16.{Name16}
use Rattle.plex_script.specs.CfTypes.declared.shell_commands.ShellCmd.TheVariants as shell
use Rattle.plex_script.specs.CfTypes.Term.{block_of}
use Rattle.plex_script.specs.EngineApi.declared.asks.Ask.TheVariants as ask
use Rattle.plex_script.specs.declared.scripts.AnyAsk.TheVariants as any
use Rattle.plex_script.specs.declared.scripts.Act.{Act}
use Rattle.plex_script.specs.declared.scripts.Act.TheVariants as act
use Rattle.plex_script.specs.declared.scripts.Line.{Line}
use Rattle.plex_script.specs.declared.scripts.Script.{Script}

-- ---- numbers

-- the number behind x; each is below 2147483648
abbrev pub next_number : ℕ → ℕ
next_number x = (x * 1103515245 + 12345) % 2147483648

-- the number so many steps behind x
unfoldable pub number_after : ℕ → ℕ → ℕ
number_after zero x = x
number_after (suc steps) x = next_number (number_after steps x)

-- the page and the bit that a number stands for, 0 to 63
abbrev pub index_of : ℕ → ℕ
index_of x = x / 65536 % 64

-- ---- the policy, of seven lines

-- the name with this text
abbrev pub named : List ℕ → Name16
named text = record { 0 = block_of text }

-- connector c, from 0, has the letter A, B, C or D
abbrev pub letter : ℕ → List ℕ
letter c = (65 + c) ∷ []

abbrev pub load_facility : Pref
load_facility = record { cf = record { 0 = 1 }; units = 1000 }

abbrev pub load_pref : Pref
load_pref = record { cf = record { 0 = 1 }; units = 512 }

abbrev pub load_form : StrForm
load_form = record {
  name = named (codes "LOADCACHE");
  kind = kind.Cache;
  caps = record { entries = 256; elements = 256 };
  conns = 4;
  vector = 64;
  keep = false;
  prefs = load_pref ∷ [];
}

abbrev pub load_connectors : List Name16
load_connectors = map (λ c. named (letter c)) (range_with_len 0 4)

-- ---- the lines of connectors

-- how many lines a connector has behind its CONNECT
unfoldable pub lines_each : ℕ
lines_each = 1000

-- the place of line i of a connector in the text; line 0 is its CONNECT
abbrev pub place_of : ℕ → ℕ → ℕ
place_of c i = 8 + 1001 * c + i

-- line i of connector c, which does this at the structure
abbrev pub own_line : ℕ → ℕ → Act → Line
own_line c i act = record {
  at = place_of c i;
  by = record { 0 = c + 1 };
  on = record { 0 = 0 };
  act = act;
  retry = 0;
}

-- the name of page j, and what connector c writes in line i
abbrev pub page : ℕ → Name16
page j = named (codes "N" ++ decimal j)

abbrev pub body : ℕ → ℕ → List ℕ
body c i = letter c ++ decimal i

-- a command on the content of the cache
abbrev pub content_call : CacheCmd → Act
content_call cmd = act.Call (any.Cache (ask.Content (alter.Inner cmd)))

abbrev pub read : ℕ → Act
read j = content_call (cache.Read (page j) j None 1)

abbrev pub write : ℕ → ℕ → ℕ → Act
write c i j = content_call (cache.Write (page j) j (body c i) (Some 1) None None 1 false)

abbrev pub connect : Act
connect = act.Call (any.Cache (ask.Shell (shell.Connect false)))

-- of each four lines of a connector one writes page j, two read it, and one tests its bit
abbrev pub work : ℕ → ℕ → ℕ → Act
work c i j = if i % 4 == 0 then act.Test j else if i % 4 == 1 then write c i j else read j

abbrev pub connect_line : ℕ → Line
connect_line c = own_line c 0 connect

-- line i, where the number before line 1 is x
abbrev pub work_line : ℕ → ℕ → ℕ → Line
work_line c x i = own_line c i (work c i (index_of (number_after i x)))

abbrev pub connector_lines : ℕ → ℕ → List Line
connector_lines c x = connect_line c ∷ map (work_line c x) (range_with_len 1 lines_each)

-- ---- the whole

-- the number before line 1 of a connector: it goes on from one connector to the next
abbrev pub first_number : ℕ → ℕ → ℕ
first_number n c = number_after (lines_each * c) (n % 2147483648)

-- the lines of one connector
abbrev pub own_lines : ℕ → ℕ → List Line
own_lines n c = connector_lines c (first_number n c)

-- the lines of so many connectors
unfoldable pub lines_of_first : ℕ → ℕ → List Line
lines_of_first n count = flat_map (own_lines n) (range_with_len 0 count)

unfoldable pub load_script : ℕ → Script
load_script n = record {
  facilities = load_facility ∷ [];
  structures = load_form ∷ [];
  connectors = load_connectors;
  lines = lines_of_first n 4;
}
