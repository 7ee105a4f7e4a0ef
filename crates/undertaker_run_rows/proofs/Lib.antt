mod WorkedGolem
