-- The library's calls: those that a host links and runs. Assumes nothing.
use Rattle.contracts.specs.{TakesAll, Allows}
use Rattle.promises.specs.Calls.{Calls, Faithful}
use Rattle.shrikemuff.proofs.Contracts.{shrike_read, shrike_write, shrike_translate, shrike_check, shrike_edit, shrike_elements, shrike_list, shrike_group, shrike_compare}
use Rattle.shrikemuff.proofs.Contracts.{shrike_import, shrike_names, shrike_import_spot}
use Rattle.shrikemuff.proofs.Contracts as contracts

-- the library's calls, each by its own contract
abbrev pub shrikes : Calls
shrikes = record {
  Reads = λ file buffer. Allows shrike_read (file, buffer);
  Writes = λ tokens buffer. Allows shrike_write (tokens, buffer);
  Translates = λ file table. Allows shrike_translate (file, table);
  Checks = λ table buffer used counts. Allows shrike_check (table, buffer, used, counts);
  Performs = λ table buffer used q second counts. Allows shrike_edit (table, buffer, used, q, second, counts);
  Tells = λ table counts name. Allows shrike_elements (table, counts, name);
  PerformsList = λ table buffer used list counts. Allows shrike_list (table, buffer, used, list, counts);
  PerformsGroup = λ table buffer used list second. Allows shrike_group (table, buffer, used, list, second);
  Compares = λ old new e buffer. Allows shrike_compare (old, new, e, buffer);
  Imports = λ text buffer. Allows shrike_import (text, buffer);
  Names = λ text buffer. Allows shrike_names (text, buffer);
  Spots = λ text. Allows shrike_import_spot text;
}

-- they allow no outcome but the paper's
pub faithful : Faithful shrikes
faithful = record {
  reads = λ file buffer. contracts.reads (file, buffer);
  writes = λ tokens buffer. contracts.writes (tokens, buffer);
  translates = λ file table. contracts.translates (file, table);
  checks = λ table buffer used counts. contracts.checks (table, buffer, used, counts);
  performs = λ table buffer used q second counts. contracts.performs (table, buffer, used, q, second, counts);
  tells = λ table counts name. contracts.tells (table, counts, name);
  performs_list = λ table buffer used list counts. contracts.performs_list (table, buffer, used, list, counts);
  performs_group = λ table buffer used list second. contracts.performs_group (table, buffer, used, list, second);
  compares = λ old new e buffer. contracts.compares (old, new, e, buffer);
  imports = λ text buffer. contracts.imports (text, buffer);
  names = λ text buffer. contracts.lists (text, buffer);
  spots = λ text. contracts.spots text;
}

-- "Every call takes every input"
pub take_all : TakesAll shrike_read × TakesAll shrike_write × TakesAll shrike_translate × TakesAll shrike_check × TakesAll shrike_edit × TakesAll shrike_list × TakesAll shrike_group × TakesAll shrike_compare × TakesAll shrike_import × TakesAll shrike_names × TakesAll shrike_import_spot
take_all = (contracts.read_takes_all, contracts.write_takes_all, contracts.translate_takes_all, contracts.check_takes_all, contracts.edit_takes_all, contracts.list_takes_all, contracts.group_takes_all, contracts.compare_takes_all, contracts.import_takes_all, contracts.names_takes_all, contracts.spot_takes_all)
