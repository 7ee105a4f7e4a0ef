mod WorkedLists
