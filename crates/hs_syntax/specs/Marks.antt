-- The names of the steps that build trees, as their numbers, made by grammar/make_literal.py.
use Rattle.std.specs.Prelude.{ℕ}

abbrev pub query_statement : ℕ
query_statement = 0

abbrev pub modes : ℕ
modes = 1

abbrev pub start_transaction : ℕ
start_transaction = 2

abbrev pub commit : ℕ
commit = 3

abbrev pub savepoint : ℕ
savepoint = 4

abbrev pub release_savepoint : ℕ
release_savepoint = 5

abbrev pub rollback : ℕ
rollback = 6

abbrev pub rollback_to : ℕ
rollback_to = 7

abbrev pub read_only : ℕ
read_only = 8

abbrev pub read_write : ℕ
read_write = 9

abbrev pub repeatable_read : ℕ
repeatable_read = 10

abbrev pub serializable : ℕ
serializable = 11

abbrev pub read_committed : ℕ
read_committed = 12

abbrev pub name : ℕ
name = 13

abbrev pub first_name : ℕ
first_name = 14

abbrev pub next_name : ℕ
next_name = 15

abbrev pub number : ℕ
number = 16

abbrev pub text : ℕ
text = 17

abbrev pub number_literal : ℕ
number_literal = 18

abbrev pub text_literal : ℕ
text_literal = 19

abbrev pub true_mark : ℕ
true_mark = 20

abbrev pub false_mark : ℕ
false_mark = 21

abbrev pub null : ℕ
null = 22

abbrev pub at : ℕ
at = 23

abbrev pub date : ℕ
date = 24

abbrev pub timestamp : ℕ
timestamp = 25

abbrev pub query : ℕ
query = 26

abbrev pub except : ℕ
except = 27

abbrev pub union_all : ℕ
union_all = 28

abbrev pub union : ℕ
union = 29

abbrev pub intersect : ℕ
intersect = 30

abbrev pub values : ℕ
values = 31

abbrev pub values_body : ℕ
values_body = 32

abbrev pub bracket_body : ℕ
bracket_body = 33

abbrev pub select : ℕ
select = 34

abbrev pub select_body : ℕ
select_body = 35

abbrev pub yes : ℕ
yes = 36

abbrev pub no : ℕ
no = 37

abbrev pub every : ℕ
every = 38

abbrev pub item : ℕ
item = 39

abbrev pub alias : ℕ
alias = 40

abbrev pub no_alias : ℕ
no_alias = 41

abbrev pub from : ℕ
from = 42

abbrev pub add_from : ℕ
add_from = 43

abbrev pub inner_join : ℕ
inner_join = 44

abbrev pub left_join : ℕ
left_join = 45

abbrev pub cross_join : ℕ
cross_join = 46

abbrev pub table : ℕ
table = 47

abbrev pub derived : ℕ
derived = 48

abbrev pub written : ℕ
written = 49

abbrev pub group : ℕ
group = 50

abbrev pub unwritten : ℕ
unwritten = 51

abbrev pub first : ℕ
first = 52

abbrev pub next : ℕ
next = 53

abbrev pub row : ℕ
row = 54

abbrev pub ascending : ℕ
ascending = 55

abbrev pub descending : ℕ
descending = 56

abbrev pub limit : ℕ
limit = 57

abbrev pub offset : ℕ
offset = 58

abbrev pub insert : ℕ
insert = 59

abbrev pub insert_columns : ℕ
insert_columns = 60

abbrev pub insert_query : ℕ
insert_query = 61

abbrev pub tuples : ℕ
tuples = 62

abbrev pub tuple : ℕ
tuple = 63

abbrev pub tuple_value : ℕ
tuple_value = 64

abbrev pub tuple_default : ℕ
tuple_default = 65

abbrev pub add_tuple : ℕ
add_tuple = 66

abbrev pub tuples_body : ℕ
tuples_body = 67

abbrev pub insert_tuples : ℕ
insert_tuples = 68

abbrev pub update : ℕ
update = 69

abbrev pub update_statement : ℕ
update_statement = 70

abbrev pub in_list : ℕ
in_list = 71

abbrev pub assign : ℕ
assign = 72

abbrev pub assign_default : ℕ
assign_default = 73

abbrev pub delete : ℕ
delete = 74

abbrev pub delete_statement : ℕ
delete_statement = 75

abbrev pub in_query : ℕ
in_query = 76

abbrev pub lock : ℕ
lock = 77

abbrev pub lock_statement : ℕ
lock_statement = 78

abbrev pub lock_read : ℕ
lock_read = 79

abbrev pub lock_write : ℕ
lock_write = 80

abbrev pub memory : ℕ
memory = 81

abbrev pub create_index : ℕ
create_index = 82

abbrev pub create_statement : ℕ
create_statement = 83

abbrev pub column_element : ℕ
column_element = 84

abbrev pub constraint_element : ℕ
constraint_element = 85

abbrev pub define : ℕ
define = 86

abbrev pub default : ℕ
default = 87

abbrev pub plus_number : ℕ
plus_number = 88

abbrev pub minus_number : ℕ
minus_number = 89

abbrev pub named : ℕ
named = 90

abbrev pub here : ℕ
here = 91

abbrev pub unnamed : ℕ
unnamed = 92

abbrev pub not_null : ℕ
not_null = 93

abbrev pub column_primary : ℕ
column_primary = 94

abbrev pub column_unique : ℕ
column_unique = 95

abbrev pub column_check : ℕ
column_check = 96

abbrev pub references : ℕ
references = 97

abbrev pub column_references : ℕ
column_references = 98

abbrev pub parent_columns : ℕ
parent_columns = 99

abbrev pub on_delete : ℕ
on_delete = 100

abbrev pub on_update : ℕ
on_update = 101

abbrev pub cascade : ℕ
cascade = 102

abbrev pub restrict : ℕ
restrict = 103

abbrev pub no_action : ℕ
no_action = 104

abbrev pub set_null : ℕ
set_null = 105

abbrev pub set_default : ℕ
set_default = 106

abbrev pub table_primary : ℕ
table_primary = 107

abbrev pub table_unique : ℕ
table_unique = 108

abbrev pub table_check : ℕ
table_check = 109

abbrev pub table_foreign : ℕ
table_foreign = 110

abbrev pub smallint : ℕ
smallint = 111

abbrev pub integer : ℕ
integer = 112

abbrev pub bigint : ℕ
bigint = 113

abbrev pub varchar : ℕ
varchar = 114

abbrev pub boolean : ℕ
boolean = 115

abbrev pub date_type : ℕ
date_type = 116

abbrev pub timestamp_type : ℕ
timestamp_type = 117

abbrev pub decimal_default : ℕ
decimal_default = 118

abbrev pub decimal_scale : ℕ
decimal_scale = 119

abbrev pub decimal : ℕ
decimal = 120

abbrev pub drop_constraint : ℕ
drop_constraint = 121

abbrev pub add_column : ℕ
add_column = 122

abbrev pub add_constraint : ℕ
add_constraint = 123

abbrev pub drop_table : ℕ
drop_table = 124

abbrev pub drop_index : ℕ
drop_index = 125

abbrev pub set_transaction : ℕ
set_transaction = 126

abbrev pub set_characteristics : ℕ
set_characteristics = 127

abbrev pub control_locks : ℕ
control_locks = 128

abbrev pub default_serializable : ℕ
default_serializable = 129

abbrev pub default_read_committed : ℕ
default_read_committed = 130

abbrev pub autocommit_true : ℕ
autocommit_true = 131

abbrev pub autocommit_false : ℕ
autocommit_false = 132

abbrev pub write_delay_false : ℕ
write_delay_false = 133

abbrev pub or : ℕ
or = 134

abbrev pub and : ℕ
and = 135

abbrev pub not : ℕ
not = 136

abbrev pub exists : ℕ
exists = 137

abbrev pub equal : ℕ
equal = 138

abbrev pub not_equal : ℕ
not_equal = 139

abbrev pub less : ℕ
less = 140

abbrev pub less_or_equal : ℕ
less_or_equal = 141

abbrev pub greater : ℕ
greater = 142

abbrev pub greater_or_equal : ℕ
greater_or_equal = 143

abbrev pub is_null : ℕ
is_null = 144

abbrev pub is_not_null : ℕ
is_not_null = 145

abbrev pub between : ℕ
between = 146

abbrev pub like_escape : ℕ
like_escape = 147

abbrev pub like : ℕ
like = 148

abbrev pub add : ℕ
add = 149

abbrev pub subtract : ℕ
subtract = 150

abbrev pub concatenate : ℕ
concatenate = 151

abbrev pub multiply : ℕ
multiply = 152

abbrev pub divide : ℕ
divide = 153

abbrev pub minus : ℕ
minus = 154

abbrev pub plus : ℕ
plus = 155

abbrev pub digits : ℕ
digits = 156

abbrev pub plus_days : ℕ
plus_days = 157

abbrev pub plus_months : ℕ
plus_months = 158

abbrev pub minus_days : ℕ
minus_days = 159

abbrev pub minus_months : ℕ
minus_months = 160

abbrev pub literal : ℕ
literal = 161

abbrev pub cast : ℕ
cast = 162

abbrev pub case : ℕ
case = 163

abbrev pub end : ℕ
end = 164

abbrev pub coalesce : ℕ
coalesce = 165

abbrev pub nullif : ℕ
nullif = 166

abbrev pub abs : ℕ
abs = 167

abbrev pub mod_mark : ℕ
mod_mark = 168

abbrev pub upper : ℕ
upper = 169

abbrev pub lower : ℕ
lower = 170

abbrev pub char_length : ℕ
char_length = 171

abbrev pub extract : ℕ
extract = 172

abbrev pub sum : ℕ
sum = 173

abbrev pub avg : ℕ
avg = 174

abbrev pub min : ℕ
min = 175

abbrev pub max : ℕ
max = 176

abbrev pub qualified : ℕ
qualified = 177

abbrev pub column : ℕ
column = 178

abbrev pub arm : ℕ
arm = 179

abbrev pub subquery : ℕ
subquery = 180

abbrev pub substring_for : ℕ
substring_for = 181

abbrev pub substring : ℕ
substring = 182

abbrev pub leading : ℕ
leading = 183

abbrev pub trailing : ℕ
trailing = 184

abbrev pub both : ℕ
both = 185

abbrev pub from_form : ℕ
from_form = 186

abbrev pub trim : ℕ
trim = 187

abbrev pub trim_character : ℕ
trim_character = 188

abbrev pub bare : ℕ
bare = 189

abbrev pub year : ℕ
year = 190

abbrev pub month : ℕ
month = 191

abbrev pub day : ℕ
day = 192

abbrev pub hour : ℕ
hour = 193

abbrev pub minute : ℕ
minute = 194

abbrev pub second : ℕ
second = 195

abbrev pub count_rows : ℕ
count_rows = 196

abbrev pub count : ℕ
count = 197

abbrev pub bracket : ℕ
bracket = 198

abbrev pub body_subquery : ℕ
body_subquery = 199

abbrev pub control_mvlocks : ℕ
control_mvlocks = 200

abbrev pub control_mvcc : ℕ
control_mvcc = 201
