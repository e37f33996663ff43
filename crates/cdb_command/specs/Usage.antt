-- The numbers of the faults of a command line, and what is said of them.
use Rattle.std.specs.Prelude.{ℕ, List, ◌++◌, codes}
use Rattle.cdb_command.specs.declared.usage.Usage.{Usage}
use Rattle.cdb_command.specs.declared.usage.Usage.TheVariants.{Words, NoCommand, TwoCommands}
use Rattle.cdb_command.specs.declared.usage.Usage.TheVariants.{Option, Number, Names, Both}
use Rattle.cdb_command.specs.declared.usage.Usage.TheVariants.{NoMemory}

abbrev pub usage_number : Usage → ℕ
usage_number Words = 1
usage_number NoCommand = 2
usage_number TwoCommands = 3
usage_number (Option letter) = 4
usage_number Number = 5
usage_number Names = 6
usage_number Both = 7
usage_number NoMemory = 8

abbrev pub usage_message : Usage → List ℕ
usage_message NoMemory = codes "no memory"
usage_message fault = codes "bad command line, see cdb -h"

-- what `-h` writes
abbrev pub usage_text : List ℕ
usage_text = codes "usage: cdb -q [-W] [-m] [-n number] database key\n"
    ++ (codes "       cdb -q -i [-W] [-m] [-n number] database [input ...]\n"
    ++ (codes "       cdb -d [-W] [-m] [database]\n"
    ++ (codes "       cdb -l [-W] [-m] [database]\n"
    ++ (codes "       cdb -s [-W] [database]\n"
    ++ (codes "       cdb -c [-W] [-m] [-t temporary] [-b base] [-weru] database [input ...]\n"
    ++ (codes "       cdb -k [-W] [database]\n"
    ++ (codes "       cdb -D [-W] old new\n"
    ++ (codes "       cdb -h\n"
    ++ (codes "       cdb -V\n"
    ++ (codes "       with each: -v  say which file and why\n"
    ++ (codes "\n"
    ++ (codes "  -q  query: write the values of a key\n"
    ++ (codes "  -d  dump: write all records\n"
    ++ (codes "  -l  list: write all keys\n"
    ++ (codes "  -s  write statistics\n"
    ++ (codes "  -c  create a database from texts\n"
    ++ (codes "  -k  check a database\n"
    ++ (codes "  -D  write what changed between two databases\n"
    ++ (codes "  -h  write the usage\n"
    ++ (codes "  -V  write the version\n"
    ++ (codes "  -n  write only the value with this number\n"
    ++ (codes "  -m  read or write a map, a key and a value a line\n"
    ++ (codes "  -i  look up all keys of the inputs\n"
    ++ (codes "  -t  build in this file\n"
    ++ (codes "  -b  amend this database\n"
    ++ (codes "  -w  report duplicate keys\n"
    ++ (codes "  -e  stop at a duplicate key\n"
    ++ (codes "  -r  a record replaces those of its key\n"
    ++ (codes "  -u  leave out duplicate keys\n"
    ++ codes "  -W  use words of 8 bytes, for files above 4 GiB\n")))))))))))))))))))))))))))))

-- what `-V` writes
abbrev pub version_text : List ℕ
version_text = codes "cdb 1.4.0~dev (Pezundrix)\n"
